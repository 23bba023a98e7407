-- What contracts of public calls and laws say:
pub mod Edges
pub mod Numbers
pub mod Apart
pub mod Given
pub mod Laws
-- What only the proofs need:
pub mod Spreads
pub mod Matters
pub mod Told
pub mod Claims
pub mod Counts
pub mod Gathered
pub mod Kept
pub mod Stored
pub mod Whole
