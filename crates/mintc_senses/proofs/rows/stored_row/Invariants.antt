use Rattle.std.proofs.Common.{◌≡◌, ◌∷◌, map, take}
use Rattle.mintc_senses.specs.Seen.{from_data}
use Rattle.mintc_senses.proofs.rows.stored_row.Given as goal

abbrev pub invariant-loop-pin : goal.invariant-loop-pin
invariant-loop-pin l = l.row.items ≡ map (from_data l.data_pin l.sense) (l.data_pin ∷ l.control ∷ take l.pin-index l.ignored)
