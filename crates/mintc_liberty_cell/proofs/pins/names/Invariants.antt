use Rattle.std.proofs.Common.{◌≡◌, ◌++◌, drop}
use Rattle.mintc_liberty_cell.specs.Meaning.{names, with_role}
use Rattle.mintc_liberty_cell.specs.Seen.{pins_seen}
use Rattle.mintc_liberty_cell.proofs.pins.names.Given as goal

-- the names that are found, and those that are left
abbrev pub invariant-loop-pin : goal.invariant-loop-pin
invariant-loop-pin l = names (with_role l.role (pins_seen l.pins)) ≡ l.found.items ++ names (with_role l.role (pins_seen (drop l.pin-index l.pins)))
