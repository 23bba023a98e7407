-- What contracts of public calls and laws say:
pub mod Lanes
-- What only the proofs need:
pub mod Vectors
