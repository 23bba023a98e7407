pub mod SharedWritten
pub mod SharedFound
mod Values
mod ReservedLaws
mod Front
mod Nest
pub mod SharedHalted
