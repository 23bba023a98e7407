use Rattle.std.proofs.Common.{◌≡◌, ◌∙◌, ◌<◌, ◌+◌, ℕ, length, slice_index_or, sum_by, sym, ap, arith}
use Rattle.std.specs.List.{range_with_len}
use Rattle.std.proofs.lemmas.List.{get_or_default}
use Rattle.mintc_cells.specs.Entries.{cell_at}
use Rattle.mintc_flatten_hierarchy.specs.declared.hierarchy.Leaf.{Leaf}
use Rattle.mintc_annotate_resolve.specs.Pins.{leaf_cell, no_leaf}
use Rattle.mintcx_lint.specs.Storage.{storage_in}
use Rattle.mintcx_lint.proofs.StorageLaws.{sum_more}
use Rattle.mintcx_lint.proofs.storage.count_storage.Goals as goal

pub loop-leaf-preserved : goal.loop-leaf-preserved
loop-leaf-preserved c =
    let within : c.loop-leaf.leaf-index < length c.args.hierarchy.now.leaves = omega (arith, c.loop-leaf-test.true, ap length c.items-leaf-items.ensures) in
    let at = get_or_default c.args.hierarchy.now.leaves c.loop-leaf.leaf-index no_leaf c.leaf-item.result within ∙ ap (λ ls. slice_index_or ls c.loop-leaf.leaf-index c.leaf-item.result) (sym c.items-leaf-items.ensures) ∙ sym c.leaf-item.is in
    let same : storage_in (leaf_cell c.args.hierarchy.now c.args.cells.now c.loop-leaf.leaf-index) ≡ c.storage_in-count.result =
    ap (λ (x : Leaf). storage_in (cell_at c.args.cells.now x.cell)) at ∙ ap storage_in (sym c.cell.ensures) ∙ sym c.storage_in-count.ensures.value in
    let more = sum_more (λ k. storage_in (leaf_cell c.args.hierarchy.now c.args.cells.now k)) c.loop-leaf.leaf-index in
    record { sum = omega (arith, same, more, c.loop-leaf.invariant.sum); few = omega (arith, c.loop-leaf.invariant.few, c.storage_in-count.ensures.small) }
