pub mod SharedCalls
pub mod SharedReadingLaws
mod CommandLaws
mod ReadingLaws
mod AnswerLaws
