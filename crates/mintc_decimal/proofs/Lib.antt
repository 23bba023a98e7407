pub mod SharedRoundingLaws
mod DigitsLaws
