-- Lemmas by topic.
mod Counting
mod CountLaws
mod FillLaws
mod Entering
mod Giving
mod Closing
mod GatheringLaws
mod Ending
mod LoopLaws
mod LevelLaws
mod OnceLaws
pub mod SharedOrderLaws
mod StandingLaws
