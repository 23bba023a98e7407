-- What contracts of public calls and laws say:
pub mod Refusals
-- What only the proofs need:
pub mod Counts
pub mod Gatherings
pub mod Listings
pub mod OutgoingArcs
pub mod Searches
pub mod Standing
