pub mod SharedOrderedLaws
pub mod SharedLengthLaws
pub mod SharedShapeLaws
mod WorkedSmall
mod WorkedTwo
mod PlacedLaws
mod PassedLaws
mod CountLaws
mod OnceLaws
mod DrivenLaws
