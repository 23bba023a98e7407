-- What contracts of public calls say:
pub mod Apart
