pub mod SharedInsideLaws
pub mod SharedConditionLaws
mod Sizes
mod FirstLaws
mod ItemLaws
mod WordLaws
mod SpellLaws
