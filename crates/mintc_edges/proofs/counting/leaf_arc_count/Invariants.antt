use Rattle.std.proofs.Common.{◌≡◌, min, sum_by}
use Rattle.std.specs.List.{range_with_len}
use Rattle.mintc_text.specs.declared.limits.TheConstants.{MOST_TOLD}
use Rattle.mintc_annotate_resolve.specs.Pins.{leaf_at, leaf_cell}
use Rattle.mintc_edges.specs.Counts.{arc_count}
use Rattle.mintc_edges.specs.Numbers.{sense_of}
use Rattle.mintc_edges.proofs.counting.leaf_arc_count.Given as goal

abbrev pub invariant-loop-leaf : goal.invariant-loop-leaf
invariant-loop-leaf l =
    l.total ≡ min (sum_by (λ k. arc_count (sense_of l.senses l.cells) (leaf_at l.hierarchy k).cell (leaf_cell l.hierarchy l.cells k)) (range_with_len 0 l.leaf-index)) MOST_TOLD
