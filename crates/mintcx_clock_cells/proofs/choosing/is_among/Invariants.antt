use Rattle.std.proofs.Common.{◌≡◌, drop}
use Rattle.mintc_liberty_cell.specs.Expressions.{is_among}
use Rattle.mintcx_clock_cells.proofs.choosing.is_among.Given as goal

-- it depends on the names that are left
abbrev pub invariant-loop-other : goal.invariant-loop-other
invariant-loop-other l = is_among l.names l.name ≡ is_among (drop l.other-index l.names) l.name
