use Rattle.mintc_paths.specs.Sums.{AreRows}
use Rattle.mintc_paths.proofs.reversed.element_order.Given as goal

abbrev pub invariant-loop-bit : goal.invariant-loop-bit
invariant-loop-bit l = AreRows l.elements l.places
