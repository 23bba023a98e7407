-- What contracts of public calls say:
pub mod Clocks
-- What only the proofs need:
pub mod Seen
