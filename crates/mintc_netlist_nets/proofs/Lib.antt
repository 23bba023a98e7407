pub mod SharedNetLaws
pub mod SharedIndexLaws
pub mod SharedPlaceLaws
pub mod SharedSpanLaws
pub mod SharedLookLaws
pub mod SharedTableLaws
mod ExpressionLaws
