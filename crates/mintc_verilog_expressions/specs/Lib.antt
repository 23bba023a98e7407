-- What contracts of public calls and laws say:
pub mod Lexemes
pub mod Expressions
pub mod Left
pub mod Reading
pub mod Keys
-- What only the proofs need:
pub mod Reserved
