mod SpanLaws
mod NumberLaws
mod PieceLaws
mod DepthLaws
mod RefusalLaws
mod TextLaws
