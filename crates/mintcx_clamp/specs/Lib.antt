-- What contracts of public calls say:
pub mod Clamping
-- What only the proofs need:
pub mod Words
pub mod Walking
