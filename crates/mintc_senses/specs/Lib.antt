-- What contracts of public calls and laws say:
pub mod Words
pub mod Senses
pub mod Laws
-- What only the proofs need:
pub mod Seen
