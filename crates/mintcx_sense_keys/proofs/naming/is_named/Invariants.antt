use Rattle.std.proofs.Common.{◌≡◌, drop}
use Rattle.std.specs.List.{list_any}
use Rattle.mintcx_sense_keys.specs.Senses.{names_pair}
use Rattle.mintcx_sense_keys.proofs.naming.is_named.Given as goal

-- it depends on the items that are left
abbrev pub invariant-loop-item : goal.invariant-loop-item
invariant-loop-item l = list_any (names_pair l.cell l.pin l.output) l.items ≡ list_any (names_pair l.cell l.pin l.output) (drop l.item-index l.items)
