use Rattle.std.proofs.Common.{◌≡◌, ◌<◌, ◌==◌, ℕ, [], length, filter, take, slice_index_or, Vec, Global}
use Rattle.mintc_annotate_resolve.specs.Pins.{leaf_at, all_leaves}
use Rattle.mintc_annotate_delays.proofs.groups.leaves_by_cell.Given as goal

-- the cells so far have no leaves
abbrev pub invariant-loop-cell : goal.invariant-loop-cell
invariant-loop-cell l = (length l.groups.items ≡ l.cell) × ((c : ℕ) (d : Vec ℕ Global) → c < l.cell → (slice_index_or l.groups.items c d).items ≡ [])

-- the leaves so far stand with their cells
abbrev pub invariant-loop-number : goal.invariant-loop-number
invariant-loop-number l =
    (length l.groups.items ≡ length l.cells)
    × ((c : ℕ) (d : Vec ℕ Global) → c < length l.cells → (slice_index_or l.groups.items c d).items ≡ filter (λ k. (leaf_at l.hierarchy k).cell == c) (take l.number (all_leaves l.hierarchy)))
