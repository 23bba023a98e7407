mod ClockLaws
mod ExactLaws
pub mod SharedShownLaws
mod WrittenLaws
pub mod SharedTurnLaws
