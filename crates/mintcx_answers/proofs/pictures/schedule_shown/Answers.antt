use Rattle.std.proofs.Common.{◌∙◌, ℤ, List, refl, sym, subst, inl, inr}
use Rattle.std.proofs.lemmas.Result.{IfOk-weaker}
use Rattle.mintc_timing.specs.Departures.{AreEarly, AreLate}
use Rattle.mintcx_fares.specs.Drawings.{IsFaresDrawn}
use Rattle.mintcx_answers.specs.Pictures.{IsScheduleShown, IsShowing}
use Rattle.mintcx_answers.proofs.pictures.schedule_shown.Goals as goal

pub returns-in-Settled : goal.returns-in-Settled
returns-in-Settled c =
    let t = c.args.system.now in
    let s = c.args.schedule.now in
    let late = c.late-in-Settled.result.now in
    let early = c.early-in-Settled.result.now in
    let is_late = subst (λ (d : List ℤ). AreLate t s d) (sym (c.late-in-Settled.ensures ∙ c.early.ensures.late)) c.in-Settled.ensures.settled.0 in
    let is_early = subst (λ (d : List ℤ). AreEarly t s d) (sym c.early-in-Settled.ensures) c.early.ensures.early in
    IfOk-weaker c.fares_shown.result (IsShowing (IsFaresDrawn t s late early)) (IsScheduleShown t s) (λ told h. inl (late, early, is_late, is_early, h)) c.fares_shown.ensures

pub returns : goal.returns
returns c = inr (c.in-Loop.ensures.settled.1, refl)
