use Rattle.std.proofs.Common.{◌≡◌, ◌++◌, map}
use Rattle.std.specs.List.{range_with_len}
use Rattle.mintc_timing.specs.Violations.{failed}
use Rattle.mintc_departure.specs.Checks.{phase_check}
use Rattle.mintc_departure.proofs.clock_checks.judge_phases.Given as goal

-- the phases so far are judged
abbrev pub invariant-loop-index : goal.invariant-loop-index
invariant-loop-index l = l.violations.items ≡ l.fn.violations.items ++ failed (map (phase_check l.clocked.system.now.flat l.clocked.schedule.now l.rule) (range_with_len 1 l.index))
