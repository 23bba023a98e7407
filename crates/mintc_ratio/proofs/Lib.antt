pub mod SharedSumsLaws
pub mod SharedFinerLaws
pub mod SharedBroughtLaws
pub mod SharedFromLaws
pub mod SharedWholeCycles
mod Weights
mod Weighing
mod TestedLaws
mod RestLaws
mod CycleLaws
mod TurnLaws
mod GridLaws
mod ClimbLaws
mod TurnedLaws
mod BeginningLaws
mod OutcomeLaws
