use Rattle.std.proofs.Common.{sym, ◌∙◌}
use Rattle.mintc_sdf.proofs.SharedCarriedLaws.{passed-on}
use Rattle.mintc_sdf_edges.proofs.WalkLaws.{on-start, on-step, on-end}
use Rattle.mintc_sdf_edges.proofs.texts.walk.Goals as goal

pub loop-spans-init : goal.loop-spans-init
loop-spans-init c = λ rows e. on-start c.args.telling.now rows c.args.reader.now e

pub returns-in-End : goal.returns-in-End
returns-in-End c = λ rows e.
    on-end c.args.telling.now c.loop-spans.telling rows c.loop-spans.reader (c.loop-spans.invariant rows e) (sym c.mark.ensures ∙ c.in-End.is)

pub returns-in_err-step : goal.returns-in_err-step
returns-in_err-step c = λ rows e.
    let on = c.loop-spans.invariant rows e in
    passed-on c.from_residual.result c.in_err-step.field-0.0 _ _ _ c.from_residual.ensures.1 (λ f. on.2 ∙ f) (c.in_err-step.ensures.on on.0 on.1)

pub loop-spans-smaller : goal.loop-spans-smaller
loop-spans-smaller c = c.in_ok-step.ensures.shorter

pub loop-spans-preserved : goal.loop-spans-preserved
loop-spans-preserved c = λ rows e.
    let on = c.loop-spans.invariant rows e in
    on-step c.args.telling.now c.loop-spans.telling c.step.new.telling rows c.loop-spans.reader c.step.new.reader on (c.in_ok-step.ensures.on on.0 on.1)
