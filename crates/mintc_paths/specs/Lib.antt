-- What contracts of public calls and laws say:
pub mod Found
pub mod Refusals
pub mod Leaving
pub mod Sums
pub mod Trace
pub mod Existing
pub mod Finding
pub mod Reversed
pub mod Worklist
-- What only the proofs need:
pub mod Among
pub mod Long
pub mod Reached
pub mod Longest
pub mod Ordered
pub mod Plans
