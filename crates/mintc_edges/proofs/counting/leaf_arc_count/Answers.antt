use Rattle.std.proofs.Common.{◌∙◌, ◌<◌, length, slice_index_or, sym, ap, arith}
use Rattle.std.proofs.lemmas.List.{get_or_default}
use Rattle.mintc_cells.specs.Entries.{cell_at}
use Rattle.mintc_flatten_hierarchy.specs.declared.hierarchy.Leaf.{Leaf}
use Rattle.mintc_annotate_resolve.specs.Pins.{leaf_at, leaf_cell, no_leaf}
use Rattle.mintc_edges.specs.Counts.{arc_count}
use Rattle.mintc_edges.specs.Numbers.{sense_of}
use Rattle.mintc_edges.proofs.CountLaws.{sum_more}
use Rattle.mintc_edges.proofs.counting.leaf_arc_count.Goals as goal

pub loop-leaf-preserved : goal.loop-leaf-preserved
loop-leaf-preserved c =
    let within : c.loop-leaf.leaf-index < length c.args.hierarchy.now.leaves = omega (arith, c.loop-leaf-test.true, ap length c.items-leaves.ensures) in
    let at = get_or_default c.args.hierarchy.now.leaves c.loop-leaf.leaf-index no_leaf c.leaf-item.result within ∙ ap (λ ls. slice_index_or ls c.loop-leaf.leaf-index c.leaf-item.result) (sym c.items-leaves.ensures) ∙ sym c.leaf-item.is in
    let same = ap (λ (x : Leaf). arc_count (sense_of c.args.senses.now c.args.cells.now) x.cell (cell_at c.args.cells.now x.cell)) at in
    let more = sum_more (λ k. arc_count (sense_of c.args.senses.now c.args.cells.now) (leaf_at c.args.hierarchy.now k).cell (leaf_cell c.args.hierarchy.now c.args.cells.now k)) c.loop-leaf.leaf-index in
    omega (arith, same, more, c.arc_count.ensures, c.min-total.ensures, c.loop-leaf.invariant)
