-- What contracts of public calls and laws say:
pub mod Settled
pub mod Laws
-- What only the proofs need:
pub mod Clocked
pub mod Checks
pub mod Networks
pub mod Travels
pub mod Rounds
pub mod PairEnds
pub mod Excesses
