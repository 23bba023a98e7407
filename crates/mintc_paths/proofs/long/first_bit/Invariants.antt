use Rattle.mintc_paths_sums.specs.Placed.{placed}
use Rattle.mintc_paths.specs.Long.{AreShortBelow}
use Rattle.mintc_paths.proofs.long.first_bit.Given as goal

abbrev pub invariant-loop-bit : goal.invariant-loop-bit
invariant-loop-bit l = AreShortBelow (placed l.rows.of_bits.items l.sums) l.lane l.bit
