use Rattle.std.proofs.Common.{◌≡◌, ◌++◌, flat_map, take}
use Rattle.mintc_edges.specs.Edges.{each_edge}
use Rattle.mintc_edges.specs.Kept.{join_arc_kept}
use Rattle.mintc_edges.proofs.arcs.push_joins.Given as goal

abbrev pub invariant-loop-join : goal.invariant-loop-join
invariant-loop-join l = l.found.items ≡ l.initial.found.items ++ flat_map (λ j. each_edge (join_arc_kept l.told l.elements j)) (take l.join-index l.joins)
