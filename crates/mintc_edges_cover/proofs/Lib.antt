pub mod SharedArrivalLaws
pub mod SharedPathLaws
pub mod SharedClockLaws
pub mod SharedRightLaws
pub mod SharedHoldLaws
mod Sums
mod FixedLaws
mod LateLaws
mod EarlyLaws
