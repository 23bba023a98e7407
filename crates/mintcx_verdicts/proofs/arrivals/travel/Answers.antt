use Rattle.std.proofs.Common.{◌+ℤ◌, ◌*ℤ◌, ap, ◌∙◌}
use Rattle.mintc_timing.specs.declared.parts.Element.{Element}
use Rattle.mintc_timing.specs.declared.parts.Pair.{Pair}
use Rattle.mintc_timing.specs.Design.{element_at}
use Rattle.mintc_timing.proofs.SharedFitting.{IsTime-IsDenominator, IsTime-IsModest, read_time}
use Rattle.mintcx_verdicts.proofs.ArrivalLaws.{read, travels_for}
use Rattle.mintcx_verdicts.proofs.arrivals.travel.Goals as goal

pub returns-clause-value : goal.returns-clause-value
returns-clause-value c =
    let t = c.args.told.now.system.now in
    let den = c.args.told.now.schedule.now.den in
    let joined = c.pair-joined.ensures.value in
    read_time c.times_denominator.result (IsTime-IsModest c.times_denominator.result c.times_denominator.ensures.range)
    ∙ c.times_denominator.ensures.value
    ∙ ap (λ x. read (read c.element-from.result.now.dq_max +ℤ read c.pair-joined.result.now.max) *ℤ x) (read_time den (IsTime-IsDenominator den c.flat-flat.ensures.in_range.den))
    ∙ ap (λ x. x *ℤ den) (travels_for c.element-from.result.now.dq_max c.pair-joined.result.now.max c.element-from.ensures.kept.dq_max c.pair-joined.ensures.range)
    ∙ ap (λ (e : Element). (e.dq_max +ℤ c.pair-joined.result.now.max) *ℤ den) c.element-from.ensures.value
    ∙ ap (λ (p : Pair). ((element_at t.flat p.from).dq_max +ℤ p.max) *ℤ den) joined
