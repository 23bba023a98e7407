use Rattle.std.proofs.Common.{◌≡◌, ◌≤◌, length, take}
use Rattle.mintcx_columns.specs.Cells.{trimmed}
use Rattle.mintcx_columns.proofs.cells.end_of.Given as goal

-- only blanks follow
abbrev pub invariant-loop-end : goal.invariant-loop-end
invariant-loop-end l = record { within : l.end ≤ length l.line; same : trimmed (take l.end l.line) ≡ trimmed l.line }

abbrev pub decreases-loop-end : goal.decreases-loop-end
decreases-loop-end l = l.end
