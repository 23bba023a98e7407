pub mod SharedLowestLaws
mod AnswerLaws
mod DeterminedLaws
mod NamedLaws
mod ReportLaws
mod Throughs
mod WorkedReports
mod SummaryLaws
