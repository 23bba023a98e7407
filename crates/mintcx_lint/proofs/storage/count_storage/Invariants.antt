use Rattle.std.proofs.Common.{◌≡◌, ◌≤◌, sum_by}
use Rattle.std.specs.List.{range_with_len}
use Rattle.mintc_annotate_resolve.specs.Pins.{leaf_cell}
use Rattle.mintcx_lint.specs.Storage.{storage_in}
use Rattle.mintcx_lint.proofs.storage.count_storage.Given as goal

-- those of the leaves so far, and no more than these
abbrev pub invariant-loop-leaf : goal.invariant-loop-leaf
invariant-loop-leaf l = record {
  sum : l.count ≡ sum_by (λ k. storage_in (leaf_cell l.hierarchy l.cells k)) (range_with_len 0 l.leaf-index);
  few : l.count ≤ l.leaf-index;
}
