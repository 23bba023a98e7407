use Rattle.std.proofs.Common.{ℕ}
use Rattle.mintc_slack.specs.Gaps.{AreShorter}
use Rattle.mintc_slack.proofs.nearest.leave.Given as goal

-- the distances so far
abbrev pub invariant-loop-place : goal.invariant-loop-place
invariant-loop-place l = (hub : ℕ) → AreShorter hub l.rows.gaps.items l.fn.distances.items l.distances.items
