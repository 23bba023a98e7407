mod ChainLaws
mod CycleLaws
mod PassLaws
mod ReadingLaws
mod SpanLaws
mod TableLaws
mod ViolationLaws
