-- What contracts of public calls and laws say:
pub mod Answers
pub mod Clocks
pub mod Halts
pub mod Pictures
pub mod Shown
pub mod Tables
