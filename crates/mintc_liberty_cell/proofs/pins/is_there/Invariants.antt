use Rattle.std.proofs.Common.{◌≡◌, drop}
use Rattle.mintc_liberty_cell.specs.Expressions.{is_among}
use Rattle.mintc_liberty_cell.specs.Meaning.{names}
use Rattle.mintc_liberty_cell.specs.Seen.{pins_seen}
use Rattle.mintc_liberty_cell.proofs.pins.is_there.Given as goal

-- it isn't among those passed
abbrev pub invariant-loop-pin : goal.invariant-loop-pin
invariant-loop-pin l = is_among (names (pins_seen l.pins)) l.name ≡ is_among (names (pins_seen (drop l.pin-index l.pins))) l.name
