use Rattle.std.proofs.Common.{ℕ, ◌<◌, ◌*◌}
use Rattle.mintcx_slacks.specs.Histograms.{step_at}
use Rattle.mintcx_slacks.proofs.bars.step_for.Given as goal

-- twelve of no step so far are as much
abbrev pub invariant-loop-number : goal.invariant-loop-number
invariant-loop-number l = (k : ℕ) → k < l.number → 12 * step_at k < l.greatest
