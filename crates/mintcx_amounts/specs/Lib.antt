-- What contracts of public calls and laws say:
pub mod Units
pub mod Decimals
pub mod Amounts
pub mod Frequencies
pub mod Laws
