use Rattle.std.proofs.Common.{◌≡◌, drop}
use Rattle.std.specs.List.{list_all}
use Rattle.mintcx_sense_keys.specs.Senses.{names_some}
use Rattle.mintcx_sense_keys.proofs.rows.all_name_some.Given as goal

-- it depends on the items that are left
abbrev pub invariant-loop-item : goal.invariant-loop-item
invariant-loop-item l = list_all (names_some l.cell) l.items ≡ list_all (names_some l.cell) (drop l.item-index l.items)
