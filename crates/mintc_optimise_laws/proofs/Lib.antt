pub mod SharedSayableLaws
pub mod SharedMemberLaws
pub mod SharedOptimumLaws
