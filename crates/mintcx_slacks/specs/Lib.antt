-- What contracts of public calls say:
pub mod Slacks
pub mod Histograms
