-- What contracts of public calls say:
pub mod Lanes
pub mod Drawings
-- What the proofs need beside:
pub mod Chains
pub mod Notes
pub mod Parts
