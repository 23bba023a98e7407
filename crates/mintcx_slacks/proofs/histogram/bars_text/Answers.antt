use Rattle.std.proofs.Common.{◌≡◌, ℕ, subst}
use Rattle.std.proofs.lemmas.Result.{IfOk-weaker}
use Rattle.mintcx_slacks.specs.Histograms.{histogram_text, IsStep, most_of, step_at}
use Rattle.mintcx_slacks.proofs.histogram.bars_text.Goals as goal

pub returns : goal.returns
returns c =
    IfOk-weaker c.steps_text.result
    (λ text. text ≡ histogram_text c.args.cycle.now c.args.extra.now c.args.view.now c.step_for-step.result.femtoseconds)
    (λ text. (n : ℕ) × IsStep (most_of c.args.extra.now) n × (text ≡ histogram_text c.args.cycle.now c.args.extra.now c.args.view.now (step_at n)))
    (λ text is. (c.step_for-step.result.number, rw c.greatest.ensures.value at c.step_for-step.ensures.step, subst (λ (k : ℕ). text ≡ histogram_text c.args.cycle.now c.args.extra.now c.args.view.now k) c.step_for-step.ensures.value is))
    c.steps_text.ensures
