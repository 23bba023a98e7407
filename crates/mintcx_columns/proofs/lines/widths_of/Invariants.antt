use Rattle.std.proofs.Common.{◌≡◌}
use Rattle.mintcx_columns.specs.Tables.{widths_of}
use Rattle.mintcx_columns.proofs.lines.widths_of.Given as goal

-- the widths of the columns so far
abbrev pub invariant-loop-at : goal.invariant-loop-at
invariant-loop-at l = l.widths.items ≡ widths_of l.columns l.rows l.at
