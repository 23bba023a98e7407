pub mod SharedStatementLaws
pub mod SharedPassingLaws
pub mod SharedNestLaws
mod Sizes
mod FirstLaws
mod GrammarLaws
