use Rattle.std.proofs.Common.{◌<◌, ℕ}
use Rattle.mintc_slack.specs.Rows.{IsInRow}
use Rattle.mintc_slack.proofs.reduced_costs.are_in_rows.Given as goal

-- the gaps before this one stand in their rows
abbrev pub invariant-loop-place : goal.invariant-loop-place
invariant-loop-place l = (k : ℕ) → k < l.place → IsInRow l.gaps l.firsts k
