use Rattle.std.proofs.Common.{◌≡◌, ◌++◌, flat_map}
use Rattle.std.specs.List.{range_with_len}
use Rattle.mintc_edges.specs.Edges.{each_edge}
use Rattle.mintc_edges.specs.Kept.{data_arc_kept, output_arcs_kept}
use Rattle.mintc_edges.proofs.arcs.push_stored.Given as goal

abbrev pub invariant-loop-output : goal.invariant-loop-output
invariant-loop-output l =
    l.found.items ≡ l.fn.found.items ++ each_edge (data_arc_kept l.stored l.element) ++ flat_map (output_arcs_kept l.apart.senses.now l.stored l.element) (range_with_len 0 l.output)
