-- What contracts of public calls and laws say:
pub mod Expressions
pub mod Meaning
pub mod Passing
-- What only the proofs need:
pub mod Parentheses
pub mod Seen
pub mod Held
