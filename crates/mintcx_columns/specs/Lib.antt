-- What contracts of public calls and laws say:
pub mod Cells
pub mod Tables
pub mod Laws
