use Rattle.std.proofs.Common.{◌<◌, ℕ}
use Rattle.mintc_slack.specs.Rows.{IsRowLeast}
use Rattle.mintc_slack.proofs.nearest.are_least.Given as goal

-- the rows of the nodes below this one make no distance less
abbrev pub invariant-loop-node : goal.invariant-loop-node
invariant-loop-node l = (k : ℕ) → k < l.node → IsRowLeast l.rows.gaps.items k l.distances
