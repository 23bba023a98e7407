-- What contracts of public calls and laws say:
pub mod Verdicts
-- What only the proofs need:
pub mod Decided
pub mod Trails
pub mod Labels
pub mod Judged
pub mod Course
pub mod Rows
