use Rattle.std.proofs.Common.{◌<◌, ◌+◌, ℕ}
use Rattle.mintc_timing.specs.Clocking.{KeepsPhase}
use Rattle.mintc_checker.specs.Decided.{OfTiming}
use Rattle.mintc_checker.proofs.schedule_tests.keeps_clock.Given as goal

-- the phases so far are kept
abbrev pub invariant-loop-index : goal.invariant-loop-index
invariant-loop-index l = OfTiming l.clocked.flat.now (λ t. (k : ℕ) → k < l.index → KeepsPhase t l.clocked.schedule.now (k + 1))
