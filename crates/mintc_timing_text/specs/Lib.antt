-- What contracts of public calls and laws say:
pub mod Texts
pub mod TableText
pub mod Fields
pub mod LineForms
pub mod TableForms
pub mod Reading
pub mod TextLaws
-- What only the proofs need:
pub mod ElementWords
pub mod TableReading
