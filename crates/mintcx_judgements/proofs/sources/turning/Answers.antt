use Rattle.std.proofs.Common.{◌≡◌, ◌<◌, ◌≤◌, ap, ◌∙◌, sym, arith}
use Rattle.mintc_timing.specs.Design.{element_at, pair_at, phase_of}
use Rattle.mintcx_judgements.proofs.CauseLaws.{turning_below, turning_not_below}
use Rattle.mintcx_judgements.proofs.WideLaws.{read_cycle}
use Rattle.mintcx_judgements.proofs.sources.turning.Goals as goal

pub returns-then-from-to-clause-value : goal.returns-then-from-to-clause-value
returns-then-from-to-clause-value c =
    let t = c.args.told.now.system.now in
    let from : c.element.result.now.phase ≡ phase_of t.flat (pair_at t c.args.pair).from = ap (λ e. e.phase) c.element.ensures.value ∙ ap (λ p. phase_of t.flat p.from) c.pair-joined.ensures.value in
    let to : c.element-2.result.now.phase ≡ phase_of t.flat (pair_at t c.args.pair).to = ap (λ e. e.phase) c.element-2.ensures.value ∙ ap (λ p. phase_of t.flat p.to) c.pair-joined.ensures.value in
    sym (turning_below (phase_of t.flat (pair_at t c.args.pair).from) (phase_of t.flat (pair_at t c.args.pair).to) c.args.told.now.schedule.now.cycle (omega (arith, from, to, c.if-from-to.true)))

pub returns-else-from-to-clause-value : goal.returns-else-from-to-clause-value
returns-else-from-to-clause-value c =
    let t = c.args.told.now.system.now in
    let from : c.element.result.now.phase ≡ phase_of t.flat (pair_at t c.args.pair).from = ap (λ e. e.phase) c.element.ensures.value ∙ ap (λ p. phase_of t.flat p.from) c.pair-joined.ensures.value in
    let to : c.element-2.result.now.phase ≡ phase_of t.flat (pair_at t c.args.pair).to = ap (λ e. e.phase) c.element-2.ensures.value ∙ ap (λ p. phase_of t.flat p.to) c.pair-joined.ensures.value in
    read_cycle c.cycle.result c.cycle.ensures.range ∙ c.cycle.ensures.value ∙ sym (turning_not_below (phase_of t.flat (pair_at t c.args.pair).from) (phase_of t.flat (pair_at t c.args.pair).to) c.args.told.now.schedule.now.cycle (omega (arith, from, to, c.if-from-to.false)))
