-- What only the proofs need:
pub mod Joining
pub mod Growing
pub mod Places
pub mod Tops
pub mod Totals
