use Rattle.std.proofs.Common.{ℕ, ◌<◌, Bool, ap, ◌∙◌, sym, subst}
use Rattle.mintc_timing.specs.Design.{element_count}
use Rattle.mintcx_verdicts.specs.Arrivals.{is_tardy}
use Rattle.mintcx_verdicts.proofs.FirstLaws.{first_none, first_some}
use Rattle.mintcx_verdicts.proofs.elements.first_tardy.Goals as goal

pub returns-then-is_tardy-clause-value : goal.returns-then-is_tardy-clause-value
returns-then-is_tardy-clause-value c =
    let judging = c.args.arrived.now.judging in
    let test : ℕ → Bool = is_tardy judging.told.system.now judging.told.schedule.now judging.departures.now in
    let n = c.loop-element.element in
    let count = c.element_count-element-end.ensures.value ∙ ap element_count c.flat.ensures.value in
    sym (first_some test (element_count judging.told.system.now.flat) n (subst (λ k. n < k) count c.loop-element-test.true) (sym c.is_tardy.ensures ∙ c.if-is_tardy.true))
    ∙ c.loop-element.invariant

pub loop-element-preserved : goal.loop-element-preserved
loop-element-preserved c =
    let judging = c.args.arrived.now.judging in
    let test : ℕ → Bool = is_tardy judging.told.system.now judging.told.schedule.now judging.departures.now in
    let n = c.loop-element.element in
    let count = c.element_count-element-end.ensures.value ∙ ap element_count c.flat.ensures.value in
    sym (first_none test (element_count judging.told.system.now.flat) n (subst (λ k. n < k) count c.loop-element-test.true) (sym c.is_tardy.ensures ∙ c.if-is_tardy.false))
    ∙ c.loop-element.invariant
