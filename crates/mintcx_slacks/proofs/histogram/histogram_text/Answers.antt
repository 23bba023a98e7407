use Rattle.std.proofs.Common.{◌≡◌, ℕ, ℤ, List, subst, sym}
use Rattle.std.specs.Result.{IfOk}
use Rattle.std.proofs.lemmas.Result.{IfOk-weaker}
use Rattle.mintc_slack.specs.declared.finding.Slacks.{Slacks}
use Rattle.mintcx_slacks.specs.Histograms.{histogram_text, IsHistogramText, IsStep, most_of, step_at}
use Rattle.mintcx_slacks.proofs.histogram.histogram_text.Goals as goal

pub returns-in-Least : goal.returns-in-Least
returns-in-Least c =
    let view = c.args.view.now in
    let cycle = c.in-Least.cycle in
    subst (λ (s : Slacks). IfOk c.bars_text.result (IsHistogramText view s)) (sym c.in-Least.is)
    (IfOk-weaker c.bars_text.result
    (λ text. (n : ℕ) × IsStep (most_of c.items.result.now) n × (text ≡ histogram_text cycle c.items.result.now view (step_at n)))
    (λ text. (n : ℕ) × IsStep (most_of c.in-Least.extra) n × (text ≡ histogram_text cycle c.in-Least.extra view (step_at n)))
    (λ text h. subst (λ (xs : List ℤ). (n : ℕ) × IsStep (most_of xs) n × (text ≡ histogram_text cycle xs view (step_at n))) c.items.ensures h)
    c.bars_text.ensures)
