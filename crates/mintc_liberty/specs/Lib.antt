-- What contracts of public calls and laws say:
pub mod Texts
pub mod Meaning
pub mod Laws
-- What only the proofs need:
pub mod Places
