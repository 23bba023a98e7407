-- What contracts of public calls say:
pub mod Warnings
pub mod Latches
pub mod Outputs
pub mod Ports
pub mod Data
pub mod Clamped
