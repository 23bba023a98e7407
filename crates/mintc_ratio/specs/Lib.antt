-- What contracts of public calls and laws say:
pub mod Chains
pub mod Greatest
pub mod Tested
pub mod Searched
pub mod Finer
pub mod Brought
pub mod From
-- What only the proofs need:
pub mod LinksAt
pub mod Sums
pub mod Climbing
