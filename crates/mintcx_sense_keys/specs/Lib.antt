-- What contracts of public calls and laws say:
pub mod Laws
pub mod Plain
pub mod Senses
pub mod SensedCells
