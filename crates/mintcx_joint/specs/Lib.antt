-- What contracts of public calls say:
pub mod Shown
pub mod Alone
pub mod Chains
pub mod CornersText
pub mod Laws
