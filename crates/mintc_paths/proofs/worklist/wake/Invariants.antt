use Rattle.std.proofs.Common.{◌≡◌, ◌≤◌, ◌<◌, ℕ, length}
use Rattle.mintc_bitset.specs.BitSet.{IsIn}
use Rattle.mintc_adjacency.specs.Adjacency.{AreLeft}
use Rattle.mintc_timing.specs.Paths.{arc_at}
use Rattle.mintc_paths.proofs.worklist.wake.Given as goal

-- the arcs of the row from the one that comes next on are in the set, that one not yet
abbrev pub invariant-loop-place : goal.invariant-loop-place
invariant-loop-place l = record {
  can : (goal.iterator-loop-place).can_next l.place-iterator;
  ends : (goal.iterator-loop-place).is_finite l.place-iterator;
  left : AreLeft (λ place. (arc_at l.sequence.along.items place).from) l.row l.place-iterator.next l.place-iterator;
  inside : l.place-iterator.next ≤ length l.sequence.along.items;
  count : length l.places.words.items ≡ length l.fn.places.words.items;
  kept : (place : ℕ) → IsIn l.fn.places.words.items place → IsIn l.places.words.items place;
  awake : (place : ℕ) → l.place-iterator.next ≤ place → place < length l.sequence.along.items → (arc_at l.sequence.along.items place).from ≡ l.row →
      IsIn l.places.words.items place;
}
