-- What contracts of public calls and laws say:
pub mod Statuses
pub mod Commands
pub mod Contents
pub mod Sources
pub mod Jobs
pub mod Corners
pub mod Answers
pub mod Laws
pub mod Optima
pub mod Usual
