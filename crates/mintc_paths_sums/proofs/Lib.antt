pub mod SharedPlaced
pub mod SharedNoSums
-- Lemmas by topic.
mod Give
