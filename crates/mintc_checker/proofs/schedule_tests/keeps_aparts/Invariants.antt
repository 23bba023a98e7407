use Rattle.std.proofs.Common.{◌<◌, ◌+◌, ℕ}
use Rattle.mintc_timing.specs.Clocking.{KeepsApart}
use Rattle.mintc_checker.specs.Decided.{OfTiming}
use Rattle.mintc_checker.proofs.schedule_tests.keeps_aparts.Given as goal

-- apart from the phases so far
abbrev pub invariant-loop-index : goal.invariant-loop-index
invariant-loop-index l = OfTiming l.clocked.flat.now (λ t. (k : ℕ) → k < l.index → KeepsApart t l.clocked.schedule.now l.i (k + 1))
