-- What contracts of public calls and laws say:
pub mod Manners
pub mod Times
