-- What contracts of public calls and laws say:
pub mod Colours
pub mod Escapes
pub mod Attributes
pub mod Paths
pub mod Forms
pub mod Pictures
pub mod Places
pub mod Rooms
pub mod Laws
