-- What contracts of public calls and laws say:
pub mod Ranges
pub mod Groups
-- What only the proofs need:
pub mod Gathered
