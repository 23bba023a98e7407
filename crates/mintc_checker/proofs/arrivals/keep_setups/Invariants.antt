use Rattle.std.proofs.Common.{◌<◌, ℕ}
use Rattle.mintc_timing.specs.Right.{KeepsSetup}
use Rattle.mintc_checker.specs.Decided.{OfTiming}
use Rattle.mintc_checker.proofs.arrivals.keep_setups.Given as goal

-- the elements so far keep their setups
abbrev pub invariant-loop-number : goal.invariant-loop-number
invariant-loop-number l = OfTiming l.clocked.flat.now (λ t. (k : ℕ) → k < l.number → KeepsSetup t l.clocked.schedule.now l.departures k)
