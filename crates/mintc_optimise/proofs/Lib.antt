pub mod SharedWalkedLaws
pub mod SharedPathLaws
pub mod SharedStandingLaws
pub mod SharedSayingLaws
pub mod SharedEarliestLaws
pub mod SharedCertificateLaws
pub mod SharedTurnLaws
mod SolvedLaws
mod TimesLaws
mod UnboundedLaws
mod BeginningLaws
mod TurnedLaws
