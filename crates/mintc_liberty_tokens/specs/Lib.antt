-- What contracts of public calls and laws say:
pub mod Tokens
pub mod Statements
pub mod Scans
pub mod Reading
pub mod Laws
