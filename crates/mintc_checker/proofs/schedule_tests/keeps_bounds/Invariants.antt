use Rattle.std.proofs.Common.{take}
use Rattle.std.specs.List.{All}
use Rattle.mintc_timing.specs.Clocking.{KeepsBound}
use Rattle.mintc_checker.proofs.schedule_tests.keeps_bounds.Given as goal

-- the bounds so far are kept
abbrev pub invariant-loop-bound : goal.invariant-loop-bound
invariant-loop-bound l = All (KeepsBound l.clocked.schedule.now) (take l.bound-index l.clocked.flat.now.bounds)
