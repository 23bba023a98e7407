use Rattle.std.proofs.Common.{◌≡◌, ◌+◌, nat_le, length, drop}
use Rattle.std.specs.List.{list_any}
use Rattle.mintc_liberty_cell.specs.Meaning.{inputs}
use Rattle.mintc_liberty_cell.specs.Seen.{pins_seen}
use Rattle.mintc_liberty_cell.proofs.expressions.fits.Given as goal

-- it fits none of those passed
abbrev pub invariant-loop-pin : goal.invariant-loop-pin
invariant-loop-pin l =
    list_any (λ name. nat_le l.size (length name + 1)) (inputs (pins_seen l.pins)) ≡
    list_any (λ name. nat_le l.size (length name + 1)) (inputs (pins_seen (drop l.pin-index l.pins)))
