-- What contracts of public calls and laws say:
pub mod Cover
pub mod Laws
