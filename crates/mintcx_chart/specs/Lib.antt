-- What contracts of public calls say:
pub mod Ranges
pub mod Words
pub mod Forms
pub mod Rows
pub mod Sheets
pub mod Stretches
