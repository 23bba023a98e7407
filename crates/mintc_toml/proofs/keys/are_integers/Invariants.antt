use Rattle.std.proofs.Common.{◌≡◌, drop, map}
use Rattle.toml.specs.View.{table_view}
use Rattle.mintc_toml.specs.Lookups.{are_integers}
use Rattle.mintc_toml.proofs.keys.are_integers.Given as goal

-- it depends on the keys that are left
abbrev pub invariant-loop-key : goal.invariant-loop-key
invariant-loop-key l = are_integers (map (λ k. k.now) l.keys) (table_view l.table) ≡ are_integers (map (λ k. k.now) (drop l.key-index l.keys)) (table_view l.table)
