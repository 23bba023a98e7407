mod HoldLaws
mod SafeLaws
mod PassLaws
mod Turns
pub mod SharedStandingLaws
mod BareLaws
pub mod SharedCertificateLaws
mod TurnedLaws
mod WorkedSafe
