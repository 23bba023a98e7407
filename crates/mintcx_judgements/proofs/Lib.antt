mod BetweenLaws
mod CauseLaws
mod DataLaws
mod NamedLaws
pub mod SharedPlaceLaws
mod RoomLaws
mod RuleLaws
mod Sizes
mod WideLaws
mod WidestLaws
mod WrittenLaws
