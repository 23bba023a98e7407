-- Cycle times for which slacks are found: those of a design with few elements, so that sums at them fit 64 bits.
use Rattle.std.specs.Prelude.{pos, ◌*◌, ◌≤ℤ◌}
use Rattle.mintc_text.specs.declared.limits.TheConstants.{SHORT_NODES}
use Rattle.mintc_fraction.specs.Ratio.{Ratio, IsFraction, IsLowest}

-- What IsCycle says of a list of so few nodes.
pub record IsShortCycle (cycle : Ratio) : Type 0 where
  pub fraction : IsFraction cycle
  pub lowest : IsLowest cycle
  pub low : pos 0 ≤ℤ cycle.num
  pub num : cycle.num ≤ℤ pos (SHORT_NODES * 2000000000)
  pub den : cycle.den ≤ℤ pos SHORT_NODES
