-- What contracts of public calls and laws say:
pub mod ClockPorts
pub mod Given
pub mod Laws
pub mod Made
pub mod Phases
pub mod Said
-- What only the proofs need:
pub mod Clocked
pub mod Counts
pub mod Gathered
pub mod Searches
