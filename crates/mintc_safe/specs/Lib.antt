-- What contracts of public calls and laws say:
pub mod Hold
pub mod Laws
pub mod SafeText
pub mod SafeOptimum
pub mod Beginning
