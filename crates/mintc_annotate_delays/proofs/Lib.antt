pub mod SharedKeyLaws
mod TableLaws
mod RangeLaws
pub mod SharedLeafLaws
mod GatherLaws
pub mod SharedDelayLaws
mod DelayLaws
pub mod SharedGroupLaws
