use Rattle.std.proofs.Common.{rules}
use Rattle.mintc_annotate_delays.specs.Ranges.{look}
use Rattle.mintc_annotate.specs.Made.{pin_arc, arc_of}
use Rattle.mintc_annotate.proofs.BuildLaws.{pushed}
use Rattle.mintc_annotate.proofs.arcs.push_row.Goals as goal

pub loop-number-preserved : goal.loop-number-preserved
loop-number-preserved c =
    pushed (pin_arc (look c.args.ranges.now) c.args.gate.elements c.args.gate.leaf c.args.gate.first c.args.gate.default c.args.input) c.args.found.now.items c.loop-number.found.items c.push_arc.new.found.items
    (arc_of c.inner_bit.result c.inner_bit-in-loop-number.result c.unwrap_or-delay.result) c.args.gate.inputs c.loop-number.number c.loop-number.invariant c.in_ok-push_arc.ensures (search rules)
