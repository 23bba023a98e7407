use Rattle.std.proofs.Common.{◌≡◌, ◌++◌}
use Rattle.mintcx_columns.specs.Tables.{padded_cells}
use Rattle.mintcx_columns.proofs.lines.put_cells.Given as goal

-- the cells so far are written
abbrev pub invariant-loop-at : goal.invariant-loop-at
invariant-loop-at l = l.line ≡ l.fn.line ++ padded_cells l.columns l.widths l.row l.at
