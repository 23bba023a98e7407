use Rattle.std.proofs.Common.{◌≡◌, ℕ, refl, ◌-◌, ◌+◌, suc, arith, subst}
use Rattle.mintc_timing_text.specs.Reading.{HasPassed}
use Rattle.mintc_timing_text.specs.Texts.{NextAlone, den, phase, schedule_of, with_phase}
use Rattle.mintc_timing.proofs.SharedFitting.{read_time, IsTime-IsNumerator}
use Rattle.mintc_timing_text.proofs.SharedReadingLaws.{passed_more, passed_stop}
use Rattle.mintc_timing_text.proofs.schedule_text.phases.Goals as goal

pub returns-in_err-start : goal.returns-in_err-start
returns-in_err-start c = λ begun d t passed.
    let left : c.args.count - c.loop-phase._phase ≡ suc (c.args.count - c.loop-phase._phase - 1) = omega arith in
    rw c.from_residual.ensures
    (passed_stop (subst (λ (n : ℕ). HasPassed NextAlone den begun c.loop-phase.reader (phase n (schedule_of d t c.loop-phase.starts.items c.loop-phase.widths.items))) left (c.loop-phase.invariant.2 begun d t passed))
    c.in_err-start.ensures.read c.in_err-start.ensures.counted (λ e. e) (λ line after step. (step.0, step.1)))

pub loop-phase-preserved : goal.loop-phase-preserved
loop-phase-preserved c = (
  omega arith,
  omega arith,
  λ begun d t passed.
      let left : c.args.count - c.loop-phase._phase ≡ suc (c.args.count - (c.loop-phase._phase + 1)) = omega arith in
      let so_far = schedule_of d t c.loop-phase.starts.items c.loop-phase.widths.items in
      let ranges = c.in_ok-start.ensures.read.spells.1 in
      let start_is = rw (read_time c.in_ok-start.start (IsTime-IsNumerator c.in_ok-start.start ranges.0)) at c.push.ensures.items in
      let width_is = rw (read_time c.in_ok-start.width (IsTime-IsNumerator c.in_ok-start.width ranges.1)) at c.push-in-loop-phase.ensures.items in
      rw (start_is, width_is) (passed_more c.phase_line.new.self (phase (c.args.count - (c.loop-phase._phase + 1)) (with_phase so_far (c.in_ok-start.start, c.in_ok-start.width)))
      (subst (λ (n : ℕ). HasPassed NextAlone den begun c.loop-phase.reader (phase n so_far)) left (c.loop-phase.invariant.2 begun d t passed)) c.in_ok-start.ensures.read c.in_ok-start.ensures.counted (λ line spells. (_, spells, refl))),
)
