use Rattle.std.proofs.Common.{◌≡◌, ◌++◌}
use Rattle.mintcx_columns.specs.Cells.{blanks}
use Rattle.mintcx_columns.proofs.cells.put_blanks.Given as goal

-- the blanks so far are written
abbrev pub invariant-loop-turn : goal.invariant-loop-turn
invariant-loop-turn l = l.line ≡ l.fn.line ++ blanks l._turn
