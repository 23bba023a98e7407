-- What contracts of public calls and laws say:
pub mod Edges
pub mod Spans
pub mod Telling
pub mod Texts
pub mod Laws
-- What only the proofs need:
pub mod Walking
