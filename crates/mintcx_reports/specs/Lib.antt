-- What contracts of public calls say:
pub mod Begins
pub mod Hops
pub mod Rows
pub mod Borrowers
pub mod Reports
