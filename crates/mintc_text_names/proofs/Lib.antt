pub mod SharedNamesLaws
