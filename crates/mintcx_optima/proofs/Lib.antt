mod ChainLaws
mod FoundLaws
mod HoldLaws
pub mod SharedOptimumLaws
mod RingLaws
mod WrittenLaws
