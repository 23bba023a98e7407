mod LineLaws
mod WordLaws
