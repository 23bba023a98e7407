use Rattle.std.proofs.Common.{ℕ, List, subst}
use Rattle.std.proofs.lemmas.Result.{IfOk-weaker}
use Rattle.mintcx_amounts.specs.declared.unit.Unit.{Unit}
use Rattle.mintcx_slacks.specs.Histograms.{step_at}
use Rattle.mintcx_histogram.specs.Pictures.{IsOfStep, IsSlackPicture}
use Rattle.mintcx_histogram.proofs.drawing.least_picture.Goals as goal

pub returns : goal.returns
returns c =
    let extra = c.args.extra.now in
    let step = c.step_for.result in
    IfOk-weaker c.spread_picture.result (IsOfStep c.unit_for.result step.femtoseconds extra)
    (IsSlackPicture c.args.cycle.now extra c.args.view.now)
    (λ (text : List ℕ) of. (
      step.number,
      rw c.greatest.ensures.value at c.step_for.ensures.step,
      subst (λ (u : Unit). IsOfStep u (step_at step.number) extra text) c.unit_for.ensures
          (subst (λ (k : ℕ). IsOfStep c.unit_for.result k extra text) c.step_for.ensures.value of),
    ))
    c.spread_picture.ensures
