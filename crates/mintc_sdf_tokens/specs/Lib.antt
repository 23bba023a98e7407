-- What contracts of public calls and laws say:
pub mod Tokens
pub mod Scans
pub mod Items
pub mod Words
pub mod Reading
pub mod Conditions
pub mod Laws
-- What only the proofs need:
pub mod Pieces
