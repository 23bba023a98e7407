use Rattle.std.proofs.Common.{◌≡◌, ◌≤◌, ◌++◌, flat_map}
use Rattle.std.specs.List.{range_with_len}
use Rattle.mintc_annotate.specs.Made.{number_in}
use Rattle.mintc_edges.specs.Kept.{leaf_arcs_in}
use Rattle.mintc_edges.proofs.arcs.push_leaves.Given as goal

abbrev pub invariant-loop-leaf : goal.invariant-loop-leaf
invariant-loop-leaf l =
    (l.found.items ≡ l.initial.found.items ++ flat_map (leaf_arcs_in l.apart.told.now l.apart.senses.now l.apart.hierarchy.now l.apart.cells.now l.elements) (range_with_len 0 l.leaf))
    × (l.element ≡ number_in l.apart.hierarchy.now l.apart.cells.now l.leaf) × (l.element ≤ l.leaf)
