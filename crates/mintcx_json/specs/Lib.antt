-- What contracts of public calls say:
pub mod Objects
pub mod Clocks
pub mod Chains
pub mod Optimum
pub mod Cycles
pub mod Judgements
pub mod Slacks
pub mod Safe
pub mod Verdicts
pub mod Corners
pub mod Refusals
-- What those within say:
pub mod Pieces
