use Rattle.mintcx_judgements.specs.Sources.{AreGreatest, number_by}
use Rattle.mintcx_judgements.proofs.causes.causes.Given as goal

-- of the pairs below this one, the greatest into each element are found
abbrev pub invariant-loop-number : goal.invariant-loop-number
invariant-loop-number l = AreGreatest l.told.system.now (number_by l.sought l.told.system.now l.told.schedule.now l.departures) l.number l.found.items
