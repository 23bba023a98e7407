-- What contracts of public calls say:
pub mod Stages
pub mod Turning
pub mod Rows
pub mod Sums
pub mod Names
pub mod Gates
pub mod Through
