-- What contracts of public calls say:
pub mod Parts
pub mod Written
pub mod Clamped
-- What only the proofs need:
pub mod Told
