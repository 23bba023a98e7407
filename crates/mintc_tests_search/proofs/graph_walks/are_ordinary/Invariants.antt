use Rattle.std.proofs.Common.{ℕ, ◌<◌, ◌^◌}
use Rattle.mintc_graph_walks.specs.Bounds.{IsWithin}
use Rattle.mintc_graph_walks.specs.Walks.{arc_at}
use Rattle.mintc_tests_search.proofs.graph_walks.are_ordinary.Given as goal

abbrev pub invariant-loop-arc : goal.invariant-loop-arc
invariant-loop-arc l = (e : ℕ) → e < l.arc-index → ((arc_at l.arcs e).from < l.nodes) × ((arc_at l.arcs e).to < l.nodes) × IsWithin (2 ^ 80) (arc_at l.arcs e).weight
