use Rattle.std.proofs.Common.{◌≡◌, ◌++◌}
use Rattle.std.specs.List.{flat_map, range_with_len}
use Rattle.mintc_timing.specs.Violations.{failed}
use Rattle.mintc_departure.specs.Checks.{fed_checks}
use Rattle.mintc_departure.proofs.clock_checks.judge_aparts.Given as goal

-- the checks of the phases so far are judged
abbrev pub invariant-loop-index : goal.invariant-loop-index
invariant-loop-index l = l.violations.items ≡ l.fn.violations.items ++ failed (flat_map (fed_checks l.clocked.system.now l.clocked.schedule.now) (range_with_len 1 l.index))
