use Rattle.std.proofs.Common.{◌≡◌, drop, map, bytes_eq}
use Rattle.std.specs.List.{list_any}
use Rattle.mintcx_project.proofs.project.is_among.Given as goal

-- it depends on the keys that are left
abbrev pub invariant-loop-known : goal.invariant-loop-known
invariant-loop-known l = list_any (bytes_eq l.key) (map (λ k. k.now) l.keys) ≡ list_any (bytes_eq l.key) (map (λ k. k.now) (drop l.known-index l.keys))
