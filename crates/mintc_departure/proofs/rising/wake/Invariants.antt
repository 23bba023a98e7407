use Rattle.std.proofs.Common.{◌≡◌, ◌<◌, ◌≤◌, ℕ, length}
use Rattle.mintc_bitset.specs.BitSet.{IsIn}
use Rattle.mintc_adjacency.specs.Adjacency.{AreLeft}
use Rattle.mintc_timing.specs.Design.{pair_at}
use Rattle.mintc_departure.proofs.rising.wake.Given as goal

-- the pairs from the one that comes next on have been followed, that one not yet
abbrev pub invariant-loop-number : goal.invariant-loop-number
invariant-loop-number l = record {
  can : (goal.iterator-loop-number).can_next l.number-iterator;
  ends : (goal.iterator-loop-number).is_finite l.number-iterator;
  left : AreLeft (λ n. (pair_at l.system n).from) l.element l.number-iterator.next l.number-iterator;
  within : l.number-iterator.next ≤ length l.system.pairs;
  count : length l.stale.words.items ≡ length l.fn.stale.words.items;
  kept : (k : ℕ) → IsIn l.fn.stale.words.items k → IsIn l.stale.words.items k;
  woken : (n : ℕ) → l.number-iterator.next ≤ n → n < length l.system.pairs → (pair_at l.system n).from ≡ l.element → IsIn l.stale.words.items (pair_at l.system n).to;
}
