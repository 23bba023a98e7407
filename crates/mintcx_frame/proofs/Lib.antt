mod LeftLaws
mod NodeLaws
