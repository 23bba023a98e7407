-- What contracts of public calls say:
pub mod Tables
pub mod Slacks
pub mod Chains
pub mod Cycles
pub mod Safe
pub mod Corners
pub mod Verdicts
pub mod Violations
pub mod Passes
-- What those within say:
pub mod Records
