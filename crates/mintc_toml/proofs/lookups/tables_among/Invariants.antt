use Rattle.std.proofs.Common.{◌≡◌, ◌++◌, drop, map}
use Rattle.toml.specs.View.{items_view, table_view}
use Rattle.mintc_toml.specs.Lookups.{tables}
use Rattle.mintc_toml.proofs.lookups.tables_among.Given as goal

-- the tables so far, and those of the items that are left
abbrev pub invariant-loop-item : goal.invariant-loop-item
invariant-loop-item l = tables (items_view l.items.items) ≡ map (λ t. table_view t.now) l.found.items ++ tables (items_view (drop l.item-index l.items.items))
