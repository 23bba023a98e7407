use Rattle.std.proofs.Common.{◌≡◌, ℤ, ◌+ℤ◌, ◌*ℤ◌, to_z, of_z, ap, ◌∙◌, arith}
use Rattle.std.specs.Int.{w64, w128}
use Rattle.std.proofs.lemmas.Int.{ints, to_z-of_z}
use Rattle.std.proofs.lemmas.Result.{on_ok_weaker}
use Rattle.mintc_timing.specs.declared.parts.Element.{Element}
use Rattle.mintc_timing.specs.Design.{element_at}
use Rattle.mintcx_reports.specs.Hops.{out_word}
use Rattle.mintcx_reports.proofs.HopLaws.{same_hop}
use Rattle.mintcx_reports.proofs.hops.push_out.Goals as goal

pub returns-clause-ok : goal.returns-clause-ok
returns-clause-ok c =
    let s = c.args.told.now.schedule.now in
    let unit = c.args.told.now.unit in
    let begin = c.args.begin in
    let found = element_at c.args.told.now.flat.now c.args.element in
    let value = c.element-found.ensures.value in
    let dq = c.element-found.ensures.element.dq_max in
    let time = c.requires.time in
    let low = c.out_at.ensures.low in
    let high = c.out_at.ensures.high in
    let delay : to_z w64 (of_z w64 c.element-found.result.now.dq_max) ≡ found.dq_max =
    to_z-of_z w64 c.element-found.result.now.dq_max (omega (arith, ints, dq.0, dq.1)) ∙ ap (λ (x : Element). x.dq_max) value in
    let read : to_z w128 (of_z w128 begin) ≡ begin = to_z-of_z w128 begin (omega (arith, ints, time.0, time.1)) in
    let ends : to_z w128 (of_z w128 c.out_at.result) ≡ begin +ℤ found.dq_max *ℤ s.den =
    to_z-of_z w128 c.out_at.result (omega (arith, ints, read, time.0, time.1)) ∙ c.out_at.ensures.value
    ∙ ap (λ (x : ℤ). x +ℤ found.dq_max *ℤ s.den) read in
    on_ok_weaker c.push_some.result
    (λ e. same_hop s unit c.args.table.now.rows c.push_some.new.table.rows
    (to_z w64 (of_z w64 c.element-found.result.now.dq_max)) (to_z w128 (of_z w128 c.out_at.result)) found.dq_max (begin +ℤ found.dq_max *ℤ s.den)
    c.out_word.result.now (out_word found.flop)
    e delay ends (c.out_word.ensures ∙ ap (λ (x : Element). out_word x.flop) value))
    c.push_some.ensures.ok
