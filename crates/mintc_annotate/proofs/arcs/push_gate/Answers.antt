use Rattle.std.proofs.Common.{map}
use Rattle.std.specs.List.{range_with_len}
use Rattle.mintc_annotate_delays.specs.Ranges.{look}
use Rattle.mintc_annotate.specs.Made.{pin_arc}
use Rattle.mintc_annotate.proofs.BuildLaws.{flat_pushed}
use Rattle.mintc_annotate.proofs.arcs.push_gate.Goals as goal

pub loop-input-preserved : goal.loop-input-preserved
loop-input-preserved c =
    flat_pushed (λ i. map (pin_arc (look c.args.ranges.now) c.args.gate.elements c.args.gate.leaf c.args.gate.first c.args.gate.default i) (range_with_len c.args.gate.inputs c.args.gate.outputs))
    c.args.found.now.items c.loop-input.found.items c.push_row.new.found.items c.loop-input.input c.loop-input.invariant c.in_ok-push_row.ensures
