mod WordLaws
mod AnswerLaws
mod SourceLaws
mod UsualLaws
mod JudgementLaws
mod RefusalLaws
mod CornerLaws
mod OptimumLaws
mod NumberLaws
pub mod SharedStopLaws
mod VerdictLaws
mod StatusLaws
mod EarliestLaws
mod OptimaLaws
mod OrderLaws
mod DeterminedLaws
