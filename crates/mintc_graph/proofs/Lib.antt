pub mod SharedRingLaws
