use Rattle.std.proofs.Common.{◌≡◌, ◌<◌, ℕ, length}
use Rattle.mintc_paths_sums.specs.Placed.{row_of}
use Rattle.mintc_paths.proofs.rows.Rows.plain.Given as goal

-- the rows so far are those of the bits' own numbers
abbrev pub invariant-loop-bit : goal.invariant-loop-bit
invariant-loop-bit l = record {
  count : length l.of_bits.items ≡ l.bit;
  own : (k : ℕ) → k < l.bit → row_of l.of_bits.items k ≡ k;
}
