use Rattle.std.proofs.Common.{◌≡◌, ℤ, pos, ◌+ℤ◌, ◌*ℤ◌, ◌≤ℤ◌, to_z, of_z, ap, ◌∙◌, arith}
use Rattle.std.specs.Int.{w64, w128}
use Rattle.std.proofs.lemmas.Int.{ints, clamps, to_z-of_z}
use Rattle.mintc_timing.specs.declared.parts.Element.{Element}
use Rattle.mintc_timing.specs.Design.{element_at}
use Rattle.mintcx_reports.proofs.hops.out_at.Goals as goal

pub returns-clause-value : goal.returns-clause-value
returns-clause-value c =
    let begin = c.args.begin in
    let den = c.args.told.now.schedule.now.den in
    let found = element_at c.args.told.now.flat.now c.args.element in
    let time = c.requires.time in
    let dq = c.element.ensures.element.dq_max in
    let span = c.over_den.ensures in
    let delay : to_z w64 (of_z w64 c.element.result.now.dq_max) ≡ found.dq_max =
    to_z-of_z w64 c.element.result.now.dq_max (omega (arith, ints, dq.0, dq.1)) ∙ ap (λ (x : Element). x.dq_max) c.element.ensures.value in
    let both : to_z w128 (of_z w128 (to_z w128 (of_z w128 begin) +ℤ to_z w128 (of_z w128 c.over_den.result))) ≡ begin +ℤ c.over_den.result =
    omega (arith, ints, clamps, span.low, span.high, time.0, time.1) in
    both ∙ ap (λ (x : ℤ). begin +ℤ x) (span.value ∙ ap (λ (x : ℤ). x *ℤ den) delay)

pub returns-clause-low : goal.returns-clause-low
returns-clause-low c =
    let time = c.requires.time in
    let dq = c.element.ensures.element.dq_max in
    let span = c.over_den.ensures in
    let some : pos 0 ≤ℤ c.over_den.result = span.some (omega (arith, ints, clamps, dq.0, dq.1)) in
    omega (arith, ints, clamps, some, span.high, time.0, time.1)
