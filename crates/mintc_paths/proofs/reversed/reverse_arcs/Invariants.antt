use Rattle.std.proofs.Common.{◌≡◌, ◌<◌, ◌≤◌, ℕ, length, reverse}
use Rattle.mintc_timing.specs.Paths.{arc_at}
use Rattle.mintc_paths.specs.Reversed.{flipped}
use Rattle.mintc_paths.proofs.reversed.reverse_arcs.Given as goal

-- the arcs so far are reversed
abbrev pub invariant-loop-place : goal.invariant-loop-place
invariant-loop-place l = record {
  count : length l.along ≡ length l.fn.along;
  done : (k : ℕ) → k < l.place → arc_at l.along k ≡ flipped (arc_at (reverse l.fn.along) k);
  left : (k : ℕ) → l.place ≤ k → arc_at l.along k ≡ arc_at (reverse l.fn.along) k;
}
