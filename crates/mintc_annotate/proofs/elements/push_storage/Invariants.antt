use Rattle.std.proofs.Common.{◌≡◌, map, take, filter, zip}
use Rattle.mintc_annotate_resolve.specs.Pins.{leaf_cell, all_leaves, is_storage, leaf_path, dotted}
use Rattle.mintc_annotate_delays.specs.Ranges.{look}
use Rattle.mintc_annotate.specs.Made.{element_of}
use Rattle.mintc_annotate.proofs.elements.push_storage.Given as goal

-- the elements of the latches and flops so far
abbrev pub invariant-loop-leaf : goal.invariant-loop-leaf
invariant-loop-leaf l =
    l.found.items ≡ map (λ x. element_of (look l.timed.ranges.now) (dotted (leaf_path l.timed.hierarchy.now x.0)) x.0 x.1 (leaf_cell l.timed.hierarchy.now l.timed.cells.now x.0))
    (zip (filter (λ k. is_storage (leaf_cell l.timed.hierarchy.now l.timed.cells.now k)) (take l.leaf (all_leaves l.timed.hierarchy.now))) l.phases)
