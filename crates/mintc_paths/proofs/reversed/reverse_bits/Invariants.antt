use Rattle.std.proofs.Common.{◌≡◌, ◌<◌, ◌≤◌, ℕ, length}
use Rattle.mintc_paths_sums.specs.Placed.{row_of}
use Rattle.mintc_paths.specs.Reversed.{reversed_bit}
use Rattle.mintc_paths.proofs.reversed.reverse_bits.Given as goal

-- the rows so far have their bits where they go
abbrev pub invariant-loop-row : goal.invariant-loop-row
invariant-loop-row l = record {
  count : length l.bits ≡ length l.fn.bits;
  done : (k : ℕ) → k < l.row → row_of l.bits k ≡ reversed_bit l.elements l.places.of_bits.items (row_of l.fn.bits k);
  left : (k : ℕ) → l.row ≤ k → row_of l.bits k ≡ row_of l.fn.bits k;
}
