use Rattle.std.proofs.Common.{true, false, length, ap, arith}
use Rattle.std.proofs.lemmas.Grind.{common_steps}
use Rattle.mintc_edges.proofs.BitLaws.{as-many-bits}
use Rattle.mintc_edges.proofs.GatheredLaws.{as-stored}
use Rattle.mintc_edges.proofs.designing.elements_and_arcs.Goals as goal

pub arcs-requires-clause-few : goal.arcs-requires-clause-few
arcs-requires-clause-few c =
    let h = c.args.sources.now.hierarchy.now in
    let clock = c.args.sources.now.clock.now in
    let inputs = as-many-bits h false clock.inputs c.in_ok-bits.bits.inputs.items c.in_ok-bits.ensures.inputs in
    let outputs = as-many-bits h true clock.outputs c.in_ok-bits.bits.outputs.items c.in_ok-bits.ensures.outputs in
    omega (arith, c.requires.few, inputs, outputs, ap length c.items.ensures)

pub arcs-requires-clause-stored : goal.arcs-requires-clause-stored
arcs-requires-clause-stored c =
    let same = as-stored c.args.sources.now.hierarchy.now c.args.sources.now.cells.now c.args.sources.now.clock.now c.args.gathered.now c.requires.gathered in
    omega (arith, same, ap length c.items.ensures)

pub arcs-requires-clause-inputs : goal.arcs-requires-clause-inputs
arcs-requires-clause-inputs c = grind (arith, common_steps)

pub arcs-requires-clause-outputs : goal.arcs-requires-clause-outputs
arcs-requires-clause-outputs c = grind (arith, common_steps)
