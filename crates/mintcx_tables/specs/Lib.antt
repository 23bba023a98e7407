-- What contracts of public calls and laws say:
pub mod Tables
pub mod Obstacles
-- What only the proofs need:
pub mod Lines
