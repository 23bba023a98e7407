use Rattle.std.proofs.Common.{true, false, arith}
use Rattle.std.proofs.lemmas.Grind.{common_steps}
use Rattle.mintc_annotate.proofs.AnnotateLaws.{as_stored}
use Rattle.mintc_annotate.proofs.BuildLaws.{as_many_bits}
use Rattle.mintc_annotate.proofs.annotating.elements_and_arcs.Goals as goal

pub arcs-requires-clause-few : goal.arcs-requires-clause-few
arcs-requires-clause-few c =
    let inputs = as_many_bits c.args.hierarchy.now false c.args.clock.now.inputs c.in_ok-bits.bits.inputs.items c.in_ok-bits.ensures.inputs in
    let outputs = as_many_bits c.args.hierarchy.now true c.args.clock.now.outputs c.in_ok-bits.bits.outputs.items c.in_ok-bits.ensures.outputs in
    omega (arith, c.requires.few, inputs, outputs)

pub arcs-requires-clause-stored : goal.arcs-requires-clause-stored
arcs-requires-clause-stored c = as_stored c.args.hierarchy.now c.args.cells.now c.args.clock.now c.args.gathered.now c.requires.gathered

pub arcs-requires-clause-inputs : goal.arcs-requires-clause-inputs
arcs-requires-clause-inputs c = grind (arith, common_steps)

pub arcs-requires-clause-outputs : goal.arcs-requires-clause-outputs
arcs-requires-clause-outputs c = grind (arith, common_steps)
