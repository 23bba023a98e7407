-- What contracts of public calls and laws say:
pub mod NetsOfModules
pub mod Orders
pub mod Wired
-- What only the proofs need:
pub mod Named
pub mod PostOrder
