-- What contracts of public calls and laws say:
pub mod Decimals
pub mod DecimalValue
