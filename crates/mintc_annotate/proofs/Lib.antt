pub mod SharedPartLaws
mod AnnotateLaws
pub mod SharedArcLimits
mod BuildLaws
pub mod SharedCountLaws
pub mod SharedDesignLaws
mod DesignLimits
pub mod SharedElementLimits
mod SaidLaws
mod ListingLaws
mod PartLimits
mod JumpLaws
mod SearchLaws
pub mod SharedTraceLaws
mod WorkedFiles
pub mod SharedEachLaws
