-- What contracts of public calls and laws say:
pub mod Sums
pub mod Placed
pub mod SparseRows
