use Rattle.std.proofs.Common.{◌≡◌, drop}
use Rattle.toml.specs.View.{items_view}
use Rattle.mintc_toml.specs.Lookups.{are_texts}
use Rattle.mintc_toml.proofs.lookups.are_all_texts.Given as goal

-- it depends on the items that are left
abbrev pub invariant-loop-item : goal.invariant-loop-item
invariant-loop-item l = are_texts (items_view l.items.items) ≡ are_texts (items_view (drop l.item-index l.items.items))
