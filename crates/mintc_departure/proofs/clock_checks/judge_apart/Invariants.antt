use Rattle.std.proofs.Common.{◌≡◌, ◌++◌, map}
use Rattle.std.specs.List.{filter, range_with_len}
use Rattle.mintc_timing.specs.Violations.{failed}
use Rattle.mintc_timing.specs.Clocking.{feeds_of}
use Rattle.mintc_departure.specs.Checks.{apart_check}
use Rattle.mintc_departure.proofs.clock_checks.judge_apart.Given as goal

-- the checks with the phases so far are judged
abbrev pub invariant-loop-index : goal.invariant-loop-index
invariant-loop-index l =
    l.violations.items ≡ l.fn.violations.items ++ failed (map (apart_check l.clocked.schedule.now l.i) (filter (feeds_of l.clocked.system.now l.i) (range_with_len 1 l.index)))
