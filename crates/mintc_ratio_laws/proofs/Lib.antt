mod Best
mod Walks
mod SimpleLaws
pub mod SharedValuesLaws
mod LeastLaws
pub mod SharedOutcomeLaws
