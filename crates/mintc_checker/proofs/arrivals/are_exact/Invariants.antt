use Rattle.std.proofs.Common.{◌≡◌, ◌<◌, ℕ}
use Rattle.mintc_timing.specs.Departures.{departure, late_departure}
use Rattle.mintc_checker.specs.Decided.{OfTiming}
use Rattle.mintc_checker.proofs.arrivals.are_exact.Given as goal

-- the elements so far have exact departures
abbrev pub invariant-loop-number : goal.invariant-loop-number
invariant-loop-number l = OfTiming l.clocked.flat.now (λ t. (k : ℕ) → k < l.number → departure l.departures k ≡ late_departure t l.clocked.schedule.now l.departures k)
