pub mod SharedNameLaws
pub mod SharedRangeLimits
pub mod SharedFirstLaws
pub mod SharedPathLaws
pub mod SharedInstanceLaws
pub mod SharedResolutionLaws
pub mod SharedPlaceLaws
mod PortLaws
