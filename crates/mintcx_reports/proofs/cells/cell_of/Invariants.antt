use Rattle.std.proofs.Common.{◌≤◌}
use Rattle.mintcx_reports.proofs.cells.cell_of.Given as goal

-- the rest of the path begins no later than here
abbrev pub invariant-loop-end : goal.invariant-loop-end
invariant-loop-end l = l.begin ≤ l.end
