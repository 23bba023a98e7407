-- What contracts of public calls and laws say:
pub mod Optimum
pub mod Benches
pub mod Making
pub mod Bounded
pub mod Beginning
