use Rattle.std.proofs.Common.{◌≡◌, ◌-◌, ◌++◌, ℕ, List, map, append_assoc}
use Rattle.std.specs.List.{range_with_len}
use Rattle.mintc_timing.specs.declared.clocking.Schedule.{Schedule}
use Rattle.mintc_timing.specs.declared.violation.Violation.{Violation}
use Rattle.mintc_timing.specs.Design.{Timing, phase_count}
use Rattle.mintc_timing.specs.Violations.{failed, apart_checks, bound_checks}
use Rattle.mintc_departure.specs.Checks.{phase_check}
use Rattle.mintc_departure.specs.declared.clock_checks.PhaseRule.{PhaseRule}
use Rattle.mintc_departure.specs.declared.clock_checks.PhaseRule.TheVariants.{Cycle, Order, Span, Width}
use Rattle.mintc_departure.proofs.FailedLaws.{failed-append}
use Rattle.mintc_departure.proofs.clock_checks.judge_clock.Goals as goal

abbrev checks : Timing → Schedule → PhaseRule → ℕ → List Violation
checks t s rule n = map (phase_check t.flat s rule) (range_with_len 1 n)

pub returns : goal.returns
returns c =
    let t = c.args.clocked.now.system.now in
    let s = c.args.clocked.now.schedule.now in
    let n = phase_count t.flat in
    let all : c.judge_bounds.new.violations.items ≡ c.args.violations.now.items ++ failed (checks t s Cycle n ++ checks t s Order (n - 1) ++ checks t s Span n ++ checks t s Width n ++ apart_checks t s ++ bound_checks t.flat s) =
    simp (failed-append, ← append_assoc)
    (rw (← c.phase_count-count.ensures.value, ← c.in_ok-judge_phases.ensures, ← c.in_ok-judge_phases-2.ensures, ← c.in_ok-judge_phases-3.ensures, ← c.in_ok-judge_phases-4.ensures, c.phase_count-count.ensures.value, ← c.in_ok-judge_aparts.ensures)
    c.in_ok-judge_bounds.ensures) in
    all
