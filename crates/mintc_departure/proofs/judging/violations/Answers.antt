use Rattle.std.proofs.Common.{arith, ◌++◌, List, ap, ◌∙◌, append_assoc, inr}
use Rattle.std.proofs.lemmas.Grind.{common_steps}
use Rattle.mintc_timing.specs.declared.violation.Violation.{Violation}
use Rattle.mintc_timing.specs.Violations.{failed, clock_checks, setup_checks, hold_checks}
use Rattle.mintc_timing.proofs.SharedLoops.{no_loop}
use Rattle.mintc_departure.proofs.FailedLaws.{failed-append}
use Rattle.mintc_departure.proofs.judging.violations.Goals as goal

-- Where departures settle, no loop is above 0, and the list is that of the clock, then that of the elements.
pub returns-in_ok-judge_elements-in-Settled-clause-violations : goal.returns-in_ok-judge_elements-in-Settled-clause-violations
returns-in_ok-judge_elements-in-Settled-clause-violations c =
    let t = c.args.system.now in
    let s = c.args.schedule.now in
    let late = c.late.new.room.late in
    let early = c.judge_elements.new.room.early in
    let settled = c.in-Settled.ensures.settled.0 in
    let judged = c.in_ok-judge_elements-in-Settled.ensures in
    let elements : List Violation = setup_checks t s late ++ hold_checks t s early in
    let clock = rw c.new-violations.ensures.items at c.in_ok-judge_clock.ensures in
    inr (
      no_loop t s late settled.exact judged.fits.timing.extremes.each,
      (late, early, settled, judged.early, rw (append_assoc (clock_checks t s) (setup_checks t s late) (hold_checks t s early), failed-append (clock_checks t s) elements) (judged.violations ∙ ap (λ vs. vs ++ failed elements) clock)),
    )

pub returns-in_ok-push_loop-in-Loop-clause-late : goal.returns-in_ok-push_loop-in-Loop-clause-late
returns-in_ok-push_loop-in-Loop-clause-late c = grind (arith, common_steps)
