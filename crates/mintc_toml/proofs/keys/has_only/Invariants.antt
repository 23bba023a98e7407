use Rattle.std.proofs.Common.{◌≡◌, map}
use Rattle.toml.specs.View.{members_view}
use Rattle.mintc_toml.specs.Lookups.{has_only}
use Rattle.mintc_toml.proofs.keys.has_only.Given as goal

-- it depends on the entries that are left
abbrev pub invariant-loop-key : goal.invariant-loop-key
invariant-loop-key l = has_only (map (λ k. k.now) l.keys) (members_view l.table.entries) ≡ has_only (map (λ k. k.now) l.keys) (members_view l.key-iterator)
