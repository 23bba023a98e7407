use Rattle.std.proofs.Common.{◌≡◌, ◌≤◌, take}
use Rattle.std.specs.List.{count_by}
use Rattle.mintcx_sense_keys.specs.Senses.{names_pair}
use Rattle.mintcx_sense_keys.proofs.naming.count_naming.Given as goal

-- how many of the items so far
abbrev pub invariant-loop-item : goal.invariant-loop-item
invariant-loop-item l = (l.count ≡ count_by (names_pair l.cell l.pin l.output) (take l.item-index l.items)) × (l.count ≤ l.item-index)
