-- What contracts of public calls and laws say:
pub mod Lines
pub mod Statements
pub mod Turns
pub mod Entries
pub mod Library
pub mod Excerpts
pub mod Laws
