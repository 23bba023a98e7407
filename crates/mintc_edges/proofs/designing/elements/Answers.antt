use Rattle.std.proofs.Common.{◌++◌, true, false, List, flat_map, length, ap, ◌∙◌, arith}
use Rattle.std.proofs.lemmas.Grind.{common_steps}
use Rattle.mintc_timing.specs.declared.parts.Element.{Element}
use Rattle.mintc_annotate.specs.Made.{bits_of}
use Rattle.mintc_edges.specs.Apart.{port_elements}
use Rattle.mintc_edges.proofs.GatheredLaws.{as-stored}
use Rattle.mintc_edges.proofs.designing.elements.Goals as goal

pub push_storage-requires-clause-phases : goal.push_storage-requires-clause-phases
push_storage-requires-clause-phases c = ap length c.items.ensures ∙ as-stored c.args.apart.now.hierarchy.now c.args.apart.now.cells.now c.args.clock.now c.args.gathered.now c.requires.gathered

pub push_ports-requires : goal.push_ports-requires
push_ports-requires c = grind (arith, common_steps)

pub push_ports-requires-2 : goal.push_ports-requires-2
push_ports-requires-2 c = grind (arith, common_steps)

pub returns : goal.returns
returns c =
    let h = c.args.apart.now.hierarchy.now in
    let clock = c.args.clock.now in
    let names = c.requires.gathered.names in
    let stored = rw (c.new-found.ensures.items, c.items.ensures) at c.in_ok-push_storage.ensures in
    let inputs = rw (c.deref.ensures.value, names, c.deref-2.ensures.value, c.items-inputs.ensures, c.requires.bits.inputs.same) at c.in_ok-push_ports.ensures in
    let outputs = rw (c.deref-3.ensures.value, names, c.deref-4.ensures.value, c.items-outputs.ensures, c.requires.bits.outputs.same) at c.in_ok-push_ports-2.ensures in
    outputs ∙ ap (λ (l : List Element). l ++ flat_map (port_elements h) (bits_of h true clock.outputs)) (inputs ∙ ap (λ (l : List Element). l ++ flat_map (port_elements h) (bits_of h false clock.inputs)) stored)
