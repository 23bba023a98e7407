mod WordLaws
mod StepLaws
mod BesideLaws
mod TreeLaws
mod FormLaws
mod ReadingLaws
mod ExactLaws
