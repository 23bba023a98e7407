mod InnerLaws
pub mod SharedFieldsLaws
pub mod SharedReadingLaws
pub mod SharedScheduleReading
pub mod SharedTextLaws
pub mod SharedScheduleLaws
pub mod SharedLineLaws
pub mod SharedSpelling
mod WorkedTexts
mod TableLineLaws
mod TableReading
mod TableLaws
mod TableOne
mod TablePlain
mod ScheduleSpelling
mod TableSpelling
pub mod SharedDeciding
pub mod SharedEachText
pub mod SharedFormDeciding
mod ScheduleEach
mod TableDeciding
mod TableEach
pub mod SharedScheduleWritten
mod ScheduleLines
mod TableForms
