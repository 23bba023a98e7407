-- What contracts of public calls say:
pub mod Back
pub mod Data
