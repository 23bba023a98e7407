-- What contracts of public calls and laws say:
pub mod Bytes
pub mod Pieces
