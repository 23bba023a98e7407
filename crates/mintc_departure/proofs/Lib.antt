pub mod SharedSizes
mod NetworkLaws
mod LateSizes
mod FailedLaws
mod Filling
mod LoopLaws
mod SettledLaws
mod Ladders
pub mod SharedLesser
pub mod SharedPassLaws
mod IntoLaws
mod EarlyLaws
mod SweepLaws
mod Missing
mod Gathering
mod Greater
mod LoopSums
mod KeptLaws
