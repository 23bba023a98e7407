use Rattle.std.proofs.Common.{◌≡◌, ◌++◌, option_map}
use Rattle.std.specs.List.{filter_map, range_with_len}
use Rattle.mintc_timing.specs.declared.violation.Broken.TheVariants as broken
use Rattle.mintc_timing.specs.Violations.{check, failed, hold_amount}
use Rattle.mintc_departure.proofs.element_checks.judge_holds.Given as goal

-- the holds of the elements so far are judged
abbrev pub invariant-loop-number : goal.invariant-loop-number
invariant-loop-number l = l.violations.items ≡ l.fn.violations.items ++ failed (filter_map (λ k. option_map (check (broken.Hold k)) (hold_amount l.clocked.system.now l.clocked.schedule.now l.room.early k)) (range_with_len 0 l.number))
