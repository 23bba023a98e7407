-- What contracts of public calls and laws say:
pub mod Free
pub mod Corners
