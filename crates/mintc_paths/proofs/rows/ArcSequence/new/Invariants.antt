use Rattle.mintc_paths.specs.Sums.{AreAlong}
use Rattle.mintc_paths.proofs.rows.ArcSequence.new.Given as goal

abbrev pub invariant-loop-number : goal.invariant-loop-number
invariant-loop-number l = AreAlong l.flat.arcs l.order l.rows.of_bits.items l.number-index l.along.items
