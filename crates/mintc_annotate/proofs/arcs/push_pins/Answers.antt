use Rattle.std.proofs.Common.{◌+◌, ◌*◌, ℕ, ap}
use Rattle.mintc_timing.specs.Paths.{output_of}
use Rattle.mintc_annotate.specs.Made.{arc_of, no_delay, inner_bit}
use Rattle.mintc_annotate.proofs.BuildLaws.{pushed}
use Rattle.mintc_annotate.proofs.arcs.push_pins.Goals as goal

pub loop-number-preserved : goal.loop-number-preserved
loop-number-preserved c =
    pushed (λ o. arc_of (output_of c.args.element) (inner_bit c.args.elements (c.args.first + o)) no_delay) c.args.found.now.items c.loop-number.found.items c.push_arc.new.found.items (arc_of (2 * c.args.element + 1) c.inner_bit.result no_delay)
    c.args.inputs c.loop-number.number c.loop-number.invariant c.in_ok-push_arc.ensures (ap (λ (b : ℕ). arc_of (output_of c.args.element) b no_delay) c.inner_bit.ensures)
