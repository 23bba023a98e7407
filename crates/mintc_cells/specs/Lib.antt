-- What contracts of public calls and laws say:
pub mod CellsOf
pub mod Description
pub mod Entries
pub mod Laws
pub mod Pins
pub mod Rules
