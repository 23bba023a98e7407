use Rattle.std.proofs.Common.{◌≡◌, drop}
use Rattle.mintc_sdf_edges.specs.Telling.{keep_each}
use Rattle.mintc_sdf_edges.proofs.telling.Telling.keep_each.Given as goal

-- the values that are left complete what is known
abbrev pub invariant-loop-span : goal.invariant-loop-span
invariant-loop-span l = keep_each l.edge l.spans l.initial.self ≡ keep_each l.edge (drop l.span-index l.spans) l.self
