use Rattle.std.proofs.Common.{◌≡◌, take}
use Rattle.mintcx_reports.specs.Borrowers.{places_of}
use Rattle.mintcx_reports.proofs.borrowers.places_of.Given as goal

-- the places of the latches so far
abbrev pub invariant-loop-latch : goal.invariant-loop-latch
invariant-loop-latch l = l.places.items ≡ places_of l.departures (take l.latch-index l.latches)
