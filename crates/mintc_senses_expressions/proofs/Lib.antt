mod CoverLaws
mod SenseLaws
mod ReadBackLaws
mod WrittenLaws
mod ReadLaws
mod FunctionLaws
mod Worked
