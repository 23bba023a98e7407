use Rattle.mintc_order.specs.Gatherings.{IsAdded}
use Rattle.mintc_order.proofs.gathering.add.Given as goal

abbrev pub invariant-loop-place : goal.invariant-loop-place
invariant-loop-place l = IsAdded l.numbers l.start l.place l.initial.gathered.items l.gathered.items
