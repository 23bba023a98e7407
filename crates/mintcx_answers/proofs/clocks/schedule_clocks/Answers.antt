use Rattle.std.proofs.Common.{List, inl, inr, subst, sym}
use Rattle.std.proofs.lemmas.Result.{IfOk-weaker}
use Rattle.mintc_timing.specs.declared.violation.Violation.{Violation}
use Rattle.mintcx_answers.specs.Clocks.{AreHolds, IsOfSchedule, IsSaid}
use Rattle.mintcx_answers.proofs.clocks.schedule_clocks.Goals as goal

pub returns-then-are_holds : goal.returns-then-are_holds
returns-then-are_holds c =
    let asked = c.args.clocked.now in
    let s = c.args.schedule.now in
    let broken = c.in_ok-broken.broken.items in
    let holds = subst (λ (vs : List Violation). AreHolds vs) c.as_slice.ensures.value (c.are_holds.ensures.yes c.if-are_holds.true) in
    IfOk-weaker c.said.result (IsSaid asked.clock.now s asked.titles.now) (IsOfSchedule asked.system.now asked.clock.now s asked.titles.now asked.view.now)
    (λ told h. inl (broken, c.in_ok-broken.ensures.violations, holds, h)) c.said.ensures

pub failed-requires-clause-violations : goal.failed-requires-clause-violations
failed-requires-clause-violations c = rw c.as_slice-2.ensures.value c.in_ok-broken.ensures.violations

pub returns : goal.returns
returns c =
    let broken = c.in_ok-broken.broken.items in
    inr (
      broken,
      c.in_ok-broken.ensures.violations,
      (λ h. c.are_holds.ensures.no c.if-are_holds.false (subst (λ (vs : List Violation). AreHolds vs) (sym c.as_slice.ensures.value) h)),
      c.in_ok-text.ensures,
    )
