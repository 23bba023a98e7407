-- What contracts of public calls say:
pub mod Bars
pub mod Pictures
