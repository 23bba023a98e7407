mod WordLaws
mod GroupLaws
mod NoteLaws
mod SenseLaws
mod RowLaws
