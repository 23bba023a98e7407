use Rattle.mintcx_verdicts.specs.Arrivals.{AreLastArrivals}
use Rattle.mintcx_verdicts.proofs.arrivals.last_arrivals.Given as goal

-- of the pairs below this one, the last arrivals are found
abbrev pub invariant-loop-pair : goal.invariant-loop-pair
invariant-loop-pair l = AreLastArrivals l.judging.told.system.now l.judging.told.schedule.now l.judging.departures.now l.pair l.found.items
