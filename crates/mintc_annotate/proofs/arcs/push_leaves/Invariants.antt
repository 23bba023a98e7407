use Rattle.std.proofs.Common.{◌≡◌, ◌≤◌, ◌++◌, flat_map}
use Rattle.std.specs.List.{range_with_len}
use Rattle.mintc_annotate_resolve.specs.Pins.{leaf_cell}
use Rattle.mintc_annotate_delays.specs.Ranges.{look}
use Rattle.mintc_annotate.specs.Made.{leaf_arcs, number_in}
use Rattle.mintc_annotate.proofs.arcs.push_leaves.Given as goal

abbrev pub invariant-loop-leaf : goal.invariant-loop-leaf
invariant-loop-leaf l =
    (l.element ≡ number_in l.timed.hierarchy.now l.timed.cells.now l.leaf)
    × (l.element ≤ l.leaf)
    × (l.found.items ≡ l.initial.found.items ++ flat_map (λ k. leaf_arcs l.timed.hierarchy.now l.timed.cells.now (look l.timed.ranges.now) l.elements k (leaf_cell l.timed.hierarchy.now l.timed.cells.now k)) (range_with_len 0 l.leaf))
