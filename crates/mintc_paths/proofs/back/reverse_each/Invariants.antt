use Rattle.std.proofs.Common.{◌≡◌, ◌<◌, ◌≤◌, ℕ, length, get_or}
use Rattle.mintc_timing.specs.Design.{no_pair}
use Rattle.mintc_paths.specs.Reversed.{pair_back}
use Rattle.mintc_paths.proofs.back.reverse_each.Given as goal

-- the pairs so far are reversed back
abbrev pub invariant-loop-number : goal.invariant-loop-number
invariant-loop-number l = record {
  count : length l.pairs ≡ length l.fn.pairs;
  done : (k : ℕ) → k < l.number → get_or l.pairs k no_pair ≡ pair_back l.places.bits.items (get_or l.fn.pairs k no_pair);
  left : (k : ℕ) → l.number ≤ k → get_or l.pairs k no_pair ≡ get_or l.fn.pairs k no_pair;
}
