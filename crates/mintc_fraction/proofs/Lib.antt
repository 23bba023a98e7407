pub mod SharedLowest
pub mod SharedProducts
mod Comparing
mod Dividing
mod Reading
mod Reducing
mod Rounding
mod Summing
