use Rattle.std.proofs.Common.{◌≡◌, ◌∙◌, ◌++◌, List, length, map, flat_map, OnOk, refl, slice_index_or, sym, ap, SFits, w64, rules}
use Rattle.std.proofs.lemmas.Int.{to_z-of_z}
use Rattle.std.proofs.lemmas.List.{get_or_default}
use Rattle.mintc_cells.specs.Entries.{cell_at}
use Rattle.mintc_flatten_hierarchy.specs.declared.hierarchy.Leaf.{Leaf}
use Rattle.mintc_annotate_resolve.specs.Pins.{leaf_at, no_leaf}
use Rattle.mintc_annotate_delays.specs.Ranges.{look}
use Rattle.std.specs.List.{range_with_len}
use Rattle.std.proofs.lemmas.Result.{on_ok_weaker}
use Rattle.mintc_timing.specs.declared.parts.TimingArc.{TimingArc}
use Rattle.mintc_annotate.specs.Counts.{gate_at}
use Rattle.mintc_annotate.specs.Made.{RangeOf, pin_arc}
use Rattle.mintc_cells.specs.declared.cell.Cell.TheVariants.{Gate}
use Rattle.mintc_annotate.specs.declared.arcs.GateAt.{GateAt}
use Rattle.mintc_annotate.proofs.BuildLaws.{gate_leaf}
use Rattle.mintc_annotate.proofs.arcs.push_leaf.Goals as goal

pub returns-in-Gate : goal.returns-in-Gate
returns-in-Gate c =
    let leaf : Leaf = c.index-items-leaf.result in
    let at : leaf_at c.args.timed.now.hierarchy.now c.args.leaf ≡ leaf = get_or_default c.args.timed.now.hierarchy.now.leaves c.args.leaf no_leaf c.index-items-leaf.result c.requires.leaf ∙ ap (λ ls. slice_index_or ls c.args.leaf c.index-items-leaf.result) (sym c.items.ensures) ∙ sym c.index-items-leaf.is in
    let is : cell_at c.args.timed.now.cells.now leaf.cell ≡ Gate c.in-Gate.inputs c.in-Gate.outputs c.in-Gate.min c.in-Gate.max = sym c.cell.ensures ∙ c.in-Gate.is in
    let ranges : RangeOf = look c.args.timed.now.ranges.now in
    let gate : GateAt = c.gate_at-gate.result in
    let arcs : GateAt → List TimingArc = λ g. flat_map (λ k. map (pin_arc ranges g.elements g.leaf g.first g.default k) (range_with_len g.inputs g.outputs)) (range_with_len 0 g.inputs) in
    let least : SFits w64 c.in-Gate.min = search rules in
    let most : SFits w64 c.in-Gate.max = search rules in
    let values : gate ≡ gate_at c.args.elements c.args.leaf c.index-items-leaf.result.first_pin (c.in-Gate.min, c.in-Gate.max) (length c.in-Gate.inputs) (length c.in-Gate.outputs) =
    rw (to_z-of_z w64 c.in-Gate.min least, to_z-of_z w64 c.in-Gate.max most) at c.gate_at-gate.ensures in
    let done : OnOk c.push_gate.result (c.push_gate.new.found.items ≡ c.args.found.now.items ++ arcs gate) = c.push_gate.ensures in
    on_ok_weaker c.push_gate.result (λ e. e ∙ ap (λ l. c.args.found.now.items ++ l) (ap arcs values
    ∙ gate_leaf c.args.timed.now.hierarchy.now c.args.timed.now.cells.now ranges c.args.elements c.args.leaf leaf c.in-Gate.inputs c.in-Gate.outputs c.in-Gate.min c.in-Gate.max (length c.in-Gate.inputs) (length c.in-Gate.outputs) at is refl refl)) done
