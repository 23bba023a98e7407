-- What contracts of public calls and laws say:
pub mod Designs
pub mod FilesDesign
pub mod Laws
