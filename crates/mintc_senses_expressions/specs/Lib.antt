-- What contracts of public calls and laws say:
pub mod Transitions
pub mod Expressions
pub mod Symbols
pub mod Grammar
pub mod Reading
pub mod Laws
-- What only the proofs need:
pub mod Seen
