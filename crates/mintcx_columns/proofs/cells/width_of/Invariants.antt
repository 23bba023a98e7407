use Rattle.std.proofs.Common.{◌≡◌, take}
use Rattle.mintcx_columns.specs.Cells.{width_of}
use Rattle.mintcx_columns.proofs.cells.width_of.Given as goal

-- the width of the rows so far
abbrev pub invariant-loop-row : goal.invariant-loop-row
invariant-loop-row l = l.width ≡ width_of l.least l.column (take l.row-index l.rows)
