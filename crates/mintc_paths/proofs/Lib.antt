pub mod SharedFinding
pub mod SharedPassing
pub mod SharedExisting
pub mod SharedReversedPaths
pub mod SharedReversedPairs
pub mod SharedWaking
pub mod SharedClimbing
-- Lemmas by topic.
mod Best
mod Refusing
mod Filling
mod Beginning
mod Reaching
mod Short
mod Tracing
mod Pairing
mod Marking
mod Rowing
mod Plain
mod Raising
mod Reversing
mod ReversedSequence
mod SystemLaws
mod LongLaws
mod Along
