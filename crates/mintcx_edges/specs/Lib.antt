-- What contracts of public calls and laws say:
pub mod EdgeFiles
pub mod Halts
pub mod Laws
-- What only the proofs need:
pub mod Seen
