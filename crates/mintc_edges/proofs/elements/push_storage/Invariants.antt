use Rattle.std.proofs.Common.{◌≡◌, ◌≤◌, ◌++◌, flat_map, take, filter, zip}
use Rattle.mintc_annotate_resolve.specs.Pins.{leaf_cell, all_leaves, is_storage, leaf_path, dotted}
use Rattle.mintc_annotate.specs.Made.{number_in}
use Rattle.mintc_edges.specs.Kept.{leaf_kept}
use Rattle.mintc_edges.specs.Stored.{stored_elements_kept}
use Rattle.mintc_edges.proofs.elements.push_storage.Given as goal

-- the elements of the latches and flops so far
abbrev pub invariant-loop-leaf : goal.invariant-loop-leaf
invariant-loop-leaf l =
    (l.found.items
    ≡ l.initial.found.items
    ++ flat_map (λ x. stored_elements_kept l.apart.told.now l.apart.senses.now (leaf_kept l.apart.hierarchy.now l.apart.cells.now 0 x.0) (dotted (leaf_path l.apart.hierarchy.now x.0)) x.1 (leaf_cell l.apart.hierarchy.now l.apart.cells.now x.0))
    (zip (filter (λ k. is_storage (leaf_cell l.apart.hierarchy.now l.apart.cells.now k)) (take l.leaf (all_leaves l.apart.hierarchy.now))) l.phases))
    × (l.number ≡ number_in l.apart.hierarchy.now l.apart.cells.now l.leaf) × (l.number ≤ l.leaf)
