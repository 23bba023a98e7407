-- What contracts of public calls say:
pub mod Files
pub mod Places
pub mod Messages
pub mod Parts
-- What only the proofs need:
pub mod Loops
