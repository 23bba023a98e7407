pub mod SharedThereLaws
pub mod SharedBoolLaws
pub mod SharedOrderingLaws
mod IndexLaws
mod PinLaws
mod ConnectedLaws
