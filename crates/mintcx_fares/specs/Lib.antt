-- What contracts of public calls say:
pub mod Places
pub mod Items
pub mod Drawings
