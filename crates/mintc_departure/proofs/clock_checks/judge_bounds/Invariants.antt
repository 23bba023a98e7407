use Rattle.std.proofs.Common.{◌≡◌, ◌++◌, take, map}
use Rattle.std.specs.List.{enumerate_from}
use Rattle.mintc_timing.specs.Violations.{failed}
use Rattle.mintc_departure.specs.Checks.{bound_check}
use Rattle.mintc_departure.proofs.clock_checks.judge_bounds.Given as goal

-- the bounds so far are judged
abbrev pub invariant-loop-number : goal.invariant-loop-number
invariant-loop-number l = l.violations.items ≡ l.fn.violations.items ++ failed (map (bound_check l.clocked.schedule.now) (take l.number (enumerate_from 0 l.clocked.system.now.flat.bounds)))
