-- What contracts of public calls say:
pub mod Latches
pub mod Outputs
pub mod Ports
pub mod Storage
-- What only the proofs need:
pub mod Leaving
