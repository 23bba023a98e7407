use Rattle.std.proofs.Common.{◌≡◌, ◌∷◌, map, take}
use Rattle.mintc_senses.specs.Seen.{any_sense}
use Rattle.mintc_senses.proofs.rows.all_row.Given as goal

abbrev pub invariant-loop-pin : goal.invariant-loop-pin
invariant-loop-pin l = l.row.items ≡ map any_sense (l.input ∷ take l.pin-index l.ignored)
