use Rattle.mintc_edges.specs.Kept.{row_arcs_kept}
use Rattle.mintc_edges.proofs.ListLaws.{flat_pushed}
use Rattle.mintc_edges.proofs.arcs.push_gate.Goals as goal

pub loop-input-preserved : goal.loop-input-preserved
loop-input-preserved c =
    flat_pushed (row_arcs_kept c.args.apart.now.told.now c.args.apart.now.senses.now c.args.gate c.args.default) c.args.found.now.items c.loop-input.found.items c.push_row.new.found.items c.loop-input.input
    c.loop-input.invariant c.in_ok-push_row.ensures
