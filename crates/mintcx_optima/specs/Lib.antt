-- What contracts of public calls say:
pub mod Counts
pub mod Tables
pub mod Least
pub mod Because
pub mod Never
pub mod Optimum
pub mod Cycles
pub mod Safe
