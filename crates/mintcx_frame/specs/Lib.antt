-- What contracts of public calls say:
pub mod Ends
pub mod Names
pub mod Phases
pub mod Rows
