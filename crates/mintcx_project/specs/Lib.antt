-- What contracts of public calls and laws say:
pub mod Projects
pub mod Edges
