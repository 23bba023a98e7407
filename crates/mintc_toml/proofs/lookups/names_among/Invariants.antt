use Rattle.std.proofs.Common.{◌≡◌, ◌++◌, drop}
use Rattle.toml.specs.View.{items_view}
use Rattle.mintc_toml.specs.Lookups.{texts}
use Rattle.mintc_toml.proofs.lookups.names_among.Given as goal

-- the names so far, and those of the items that are left
abbrev pub invariant-loop-item : goal.invariant-loop-item
invariant-loop-item l = texts (items_view l.items.items) ≡ l.names.items ++ texts (items_view (drop l.item-index l.items.items))
