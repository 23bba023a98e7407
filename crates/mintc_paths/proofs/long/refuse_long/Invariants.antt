use Rattle.std.proofs.Common.{ℕ, ◌<◌}
use Rattle.mintc_paths_sums.specs.Placed.{placed}
use Rattle.mintc_paths.specs.Long.{IsShortLane}
use Rattle.mintc_paths.proofs.long.refuse_long.Given as goal

-- the lanes so far are short
abbrev pub invariant-loop-lane : goal.invariant-loop-lane
invariant-loop-lane g l = (other : ℕ) → other < l.lane → IsShortLane (placed l.block.rows.now.of_bits.items l.block.sums.now) other
