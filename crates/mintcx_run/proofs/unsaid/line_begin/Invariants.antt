use Rattle.std.proofs.Common.{◌≤◌}
use Rattle.mintcx_run.proofs.unsaid.line_begin.Given as goal

-- the last beginning so far
abbrev pub invariant-loop-at : goal.invariant-loop-at
invariant-loop-at l = l.begin ≤ l.at
