-- What only the proofs need:
pub mod Firsts
pub mod Twice
pub mod Lacking
pub mod Widths
pub mod Driving
pub mod Searching
