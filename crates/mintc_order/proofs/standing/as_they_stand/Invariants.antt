use Rattle.std.proofs.Common.{◌≡◌, ◌<◌, ℕ, length, slice_index_or}
use Rattle.mintc_order.proofs.standing.as_they_stand.Given as goal

-- the numbers so far are those of their places
abbrev pub invariant-loop-number : goal.invariant-loop-number
invariant-loop-number l = record {
  count : length l.numbers.items ≡ l.number;
  own : (k : ℕ) → k < l.number → slice_index_or l.numbers.items k 0 ≡ k;
}
