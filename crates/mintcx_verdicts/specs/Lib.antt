-- What contracts of public calls and laws say:
pub mod Counts
pub mod Rules
pub mod Arrivals
pub mod Chains
pub mod Verdicts
