mod NameLaws
mod PieceLaws
mod TableLaws
