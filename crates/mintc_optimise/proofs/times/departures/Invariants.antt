use Rattle.mintc_constraints.specs.Duality.{departure_of}
use Rattle.mintc_certificate.specs.Ranges.{IsDeparture}
use Rattle.mintc_optimise.proofs.TimesLaws.{AreSaid}
use Rattle.mintc_optimise.proofs.times.departures.Given as goal

-- the departures so far
abbrev pub invariant-loop-number : goal.invariant-loop-number
invariant-loop-number l = AreSaid IsDeparture (departure_of l.system.flat l.values) 0 l.number l.departures.items
