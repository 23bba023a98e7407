-- What contracts of public calls and laws say:
pub mod CommandLine
pub mod Given
pub mod Misread
-- What only the proofs need:
pub mod Lines
