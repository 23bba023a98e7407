use Rattle.std.proofs.Common.{◌≡◌, drop}
use Rattle.mintc_liberty_cell.specs.Expressions.{is_among}
use Rattle.mintc_liberty_cell.specs.Meaning.{inputs}
use Rattle.mintc_liberty_cell.specs.Seen.{pins_seen}
use Rattle.mintc_liberty_cell.proofs.expressions.input_named.Given as goal

-- it isn't among those passed
abbrev pub invariant-loop-pin : goal.invariant-loop-pin
invariant-loop-pin l = is_among (inputs (pins_seen l.pins)) l.name ≡ is_among (inputs (pins_seen (drop l.pin-index l.pins))) l.name
