use Rattle.std.proofs.Common.{◌++◌}
use Rattle.mintc_edges.specs.Edges.{each_edge}
use Rattle.mintc_edges.specs.Kept.{data_arc_kept, output_arcs_kept}
use Rattle.mintc_edges.proofs.ListLaws.{flat_pushed}
use Rattle.mintc_edges.proofs.arcs.push_stored.Goals as goal

pub loop-output-preserved : goal.loop-output-preserved
loop-output-preserved c =
    flat_pushed (output_arcs_kept c.args.apart.now.senses.now c.args.stored c.args.element) (c.args.found.now.items ++ each_edge (data_arc_kept c.args.stored c.args.element)) c.loop-output.found.items c.push_output.new.found.items c.loop-output.output
    c.loop-output.invariant c.in_ok-push_output.ensures
