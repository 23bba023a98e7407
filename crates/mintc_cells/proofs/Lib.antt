pub mod SharedKeptLaws
pub mod SharedPinsLaws
mod CellsLaws
mod DeterminedLaws
mod EntriesLaws
mod TomlLaws
mod EachTextLaws
