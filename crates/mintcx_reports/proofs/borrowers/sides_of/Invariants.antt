use Rattle.mintc_timing.specs.declared.parts.Pair.{Pair}
use Rattle.mintc_timing.specs.Design.{element_count}
use Rattle.mintcx_reports.specs.Borrowers.{AreFlags}
use Rattle.mintcx_reports.proofs.FlagLaws.{met}
use Rattle.mintcx_reports.proofs.borrowers.sides_of.Given as goal

-- the flags are those of the pairs so far
abbrev pub invariant-loop-pair : goal.invariant-loop-pair
invariant-loop-pair l = record {
  fed_is : AreFlags (met (λ (pair : Pair). pair.to) l.system.pairs l.pair-index) (element_count l.system.flat) l.fed.items;
  feeding_is : AreFlags (met (λ (pair : Pair). pair.from) l.system.pairs l.pair-index) (element_count l.system.flat) l.feeding.items;
}
