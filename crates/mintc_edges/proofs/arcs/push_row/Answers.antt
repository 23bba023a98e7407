use Rattle.mintc_edges.specs.Kept.{pin_arcs_kept}
use Rattle.mintc_edges.proofs.ListLaws.{flat_pushed}
use Rattle.mintc_edges.proofs.arcs.push_row.Goals as goal

pub loop-output-preserved : goal.loop-output-preserved
loop-output-preserved c =
    flat_pushed (pin_arcs_kept c.args.apart.now.told.now c.args.apart.now.senses.now c.args.gate c.args.default c.args.input) c.args.found.now.items c.loop-output.found.items c.push_transitions.new.found.items c.loop-output.output
    c.loop-output.invariant c.in_ok-push_transitions.ensures
