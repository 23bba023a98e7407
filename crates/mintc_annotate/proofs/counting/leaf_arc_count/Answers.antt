use Rattle.std.proofs.Common.{◌≡◌, ◌∙◌, ◌<◌, length, slice_index_or, sym, ap, arith}
use Rattle.std.proofs.lemmas.List.{get_or_default}
use Rattle.mintc_cells.specs.Entries.{cell_at}
use Rattle.mintc_flatten_hierarchy.specs.declared.hierarchy.Leaf.{Leaf}
use Rattle.mintc_annotate_resolve.specs.Pins.{leaf_cell, no_leaf}
use Rattle.mintc_annotate.specs.Counts.{arc_count}
use Rattle.mintc_annotate.proofs.BuildLaws.{sum_more}
use Rattle.mintc_annotate.proofs.counting.leaf_arc_count.Goals as goal

pub loop-leaf-preserved : goal.loop-leaf-preserved
loop-leaf-preserved c =
    let within : c.loop-leaf.leaf-index < length c.args.hierarchy.now.leaves = omega (arith, c.loop-leaf-test.true, ap length c.items-leaves.ensures) in
    let at = get_or_default c.args.hierarchy.now.leaves c.loop-leaf.leaf-index no_leaf c.leaf-item.result within ∙ ap (λ ls. slice_index_or ls c.loop-leaf.leaf-index c.leaf-item.result) (sym c.items-leaves.ensures) ∙ sym c.leaf-item.is in
    let same : arc_count (leaf_cell c.args.hierarchy.now c.args.cells.now c.loop-leaf.leaf-index) ≡ c.arc_count.result =
    ap (λ (x : Leaf). arc_count (cell_at c.args.cells.now x.cell)) at ∙ ap arc_count (sym c.cell.ensures) ∙ sym c.arc_count.ensures.value in
    let more = sum_more (λ k. arc_count (leaf_cell c.args.hierarchy.now c.args.cells.now k)) c.loop-leaf.leaf-index in
    omega (arith, same, more, c.min-total.ensures, c.loop-leaf.invariant)
