use Rattle.std.proofs.Common.{◌≡◌, length}
use Rattle.mintc_paths.specs.Longest.{bit_sums, AreCarried}
use Rattle.mintc_paths.proofs.longest.raise_all.Given as goal

-- the arcs so far are carried along
abbrev pub invariant-loop-place : goal.invariant-loop-place
invariant-loop-place l = record {
  count : length l.sums ≡ length l.fn.sums;
  carried : AreCarried l.flat.arcs l.order l.place (bit_sums l.sequence.rows.of_bits.items l.sums);
}
