use Rattle.std.proofs.Common.{◌≡◌, ◌++◌, drop}
use Rattle.mintc_liberty_cell.specs.Meaning.{inputs, others}
use Rattle.mintc_liberty_cell.specs.Seen.{pins_seen}
use Rattle.mintc_liberty_cell.proofs.pins.others.Given as goal

-- the names that are found, and those that are left
abbrev pub invariant-loop-pin : goal.invariant-loop-pin
invariant-loop-pin l = others l.one l.two (inputs (pins_seen l.pins)) ≡ l.found.items ++ others l.one l.two (inputs (pins_seen (drop l.pin-index l.pins)))
