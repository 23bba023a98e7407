use Rattle.std.proofs.Common.{ℕ, ◌<◌}
use Rattle.mintc_paths.specs.Long.{AreShortBelow}
use Rattle.mintc_paths.proofs.long.are_short.Given as goal

abbrev pub invariant-loop-row : goal.invariant-loop-row
invariant-loop-row l = (lane : ℕ) → lane < 8 → AreShortBelow l.sums lane l.row
