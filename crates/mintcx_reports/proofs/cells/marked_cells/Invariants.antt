use Rattle.std.proofs.Common.{◌≡◌, length}
use Rattle.mintcx_reports.proofs.cells.marked_cells.Given as goal

-- a name for each arc so far
abbrev pub invariant-loop-number : goal.invariant-loop-number
invariant-loop-number l = length l.names.items ≡ l.number
