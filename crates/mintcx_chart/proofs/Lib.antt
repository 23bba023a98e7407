mod TimeLaws
mod QuotientLaws
mod StretchLaws
mod WideLaws
pub mod SharedRowLaws
pub mod SharedWrittenLaws
