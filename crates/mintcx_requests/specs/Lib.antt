-- What contracts of public calls and laws say:
pub mod Commands
pub mod Requests
