pub mod SharedSizes
pub mod SharedTokenLaws
mod EndLaws
