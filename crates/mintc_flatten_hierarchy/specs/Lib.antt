-- What contracts of public calls and laws say:
pub mod Sources
pub mod Faults
pub mod Walks
pub mod Hierarchies
pub mod Refusals
pub mod Shape
pub mod Driven
