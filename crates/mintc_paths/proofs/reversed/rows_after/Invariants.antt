use Rattle.std.proofs.Common.{◌≡◌, ◌<◌, ℕ, length}
use Rattle.mintc_paths_sums.specs.Placed.{row_of}
use Rattle.mintc_paths.specs.Reversed.{bit_before}
use Rattle.mintc_paths.proofs.reversed.rows_after.Given as goal

-- the bits so far have the rows of those that go there
abbrev pub invariant-loop-bit : goal.invariant-loop-bit
invariant-loop-bit l = record {
  count : length l.rows.items ≡ l.bit;
  done : (k : ℕ) → k < l.bit → row_of l.rows.items k ≡ row_of l.before (bit_before l.elements l.places.bits.items k);
}
