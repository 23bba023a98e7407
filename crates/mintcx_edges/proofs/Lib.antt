mod MergedLaws
mod FormLaws
mod PlainLaws
mod HaltLaws
mod KeptLaws
mod StopLaws
