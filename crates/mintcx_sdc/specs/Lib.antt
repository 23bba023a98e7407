-- What contracts of public calls and laws say:
pub mod Times
pub mod Clocks
pub mod Delays
pub mod Texts
pub mod Obstacles
pub mod Named
