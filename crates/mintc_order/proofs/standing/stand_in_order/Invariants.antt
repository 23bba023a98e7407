use Rattle.std.proofs.Common.{◌≡◌, ◌≢◌, ◌<◌, ◌≤◌, ℕ, length, true, false, slice_index_or}
use Rattle.mintc_timing.specs.Paths.{arc_at}
use Rattle.mintc_order.proofs.standing.stand_in_order.Given as goal

-- the bits that the arcs so far leave are marked, and none of these arcs enters one that it or an arc before it leaves
abbrev pub invariant-loop-arc : goal.invariant-loop-arc
invariant-loop-arc l = record {
  count : length l.left.items ≡ l.bits;
  left : (j : ℕ) → j < l.arc-index → slice_index_or l.left.items (arc_at l.arcs j).from false ≡ true;
  apart : (i j : ℕ) → i < l.arc-index → j ≤ i → (arc_at l.arcs i).to ≢ (arc_at l.arcs j).from;
}
