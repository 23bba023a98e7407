-- What contracts of public calls and laws say:
pub mod Statuses
pub mod Conversions
-- What only the proofs need:
pub mod Tables
pub mod Puts
