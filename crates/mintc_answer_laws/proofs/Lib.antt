pub mod SharedCornerLaws
mod OrderLaws
mod GivenLaws
mod JobLaws
mod SameLaws
mod CornerLaws
mod AlikeLaws
mod JointLaws
