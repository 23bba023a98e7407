-- What contracts of public calls and laws say:
pub mod Joint
pub mod Laws
pub mod CornerText
pub mod CornerOptimum
pub mod Lifted
pub mod Joined
pub mod Beginning
