use Rattle.std.proofs.Common.{◌++◌, ap, ◌∙◌}
use Rattle.std.proofs.lemmas.Result.{on_ok_weaker}
use Rattle.mintc_fraction.specs.Ratio.{over}
use Rattle.mintc_text.specs.Lines.{ended}
use Rattle.mintcx_verdicts.specs.Chains.{tight_line}
use Rattle.mintcx_verdicts.proofs.verdict.put_least_sums.Goals as goal

pub returns : goal.returns
returns c =
    let told = c.args.told.now in
    let s = told.schedule.now in
    on_ok_weaker c.put_tight.result
    (λ e. e ∙ ap (λ x. c.args.lines.now ++ ended (tight_line told.unit x c.sums_over-sums.result)) c.cycle_time.ensures.value
    ∙ ap (λ v. c.args.lines.now ++ ended (tight_line told.unit (over s.cycle s.den) v)) c.sums_over-sums.ensures.value)
    c.put_tight.ensures
