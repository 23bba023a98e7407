use Rattle.std.proofs.Common.{◌≡◌, drop}
use Rattle.mintc_cells.specs.Entries.{cell_at}
use Rattle.mintc_cells.specs.Rules.{pins}
use Rattle.mintc_text_names.specs.Names.{is_among}
use Rattle.mintc_flatten_rules.proofs.no_pin.is_cell_pin.Given as goal

-- the name is among the pins that are left where it is among all
abbrev pub invariant-loop-number : goal.invariant-loop-number
invariant-loop-number l = is_among l.name (drop l.number (pins (cell_at l.cells l.cell))) ≡ is_among l.name (pins (cell_at l.cells l.cell))
