-- What contracts of public calls and laws say:
pub mod Bound
pub mod Count
-- What only the proofs need:
pub mod Marks
