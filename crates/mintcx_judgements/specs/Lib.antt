-- What contracts of public calls and laws say:
pub mod Named
pub mod Shown
pub mod Sources
pub mod Rules
pub mod Data
pub mod Fails
pub mod Passes
