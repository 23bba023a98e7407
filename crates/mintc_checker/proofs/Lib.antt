mod Deciding
mod Scaled
pub mod SharedFirsts
mod Greatest
mod Carrying
mod Beginning
mod Sizes
mod Arriving
mod Pairing
mod Fed
mod Exact
mod Placing
mod Sharing
mod Placed
mod Holding
