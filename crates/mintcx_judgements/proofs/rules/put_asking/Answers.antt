use Rattle.std.proofs.Common.{◌≡◌, ◌++◌, ◌*ℤ◌, ap, ◌∙◌, arith, w64, to_z, of_z}
use Rattle.std.specs.Prelude.{codes}
use Rattle.std.proofs.lemmas.Int.{ints}
use Rattle.std.proofs.lemmas.Result.{on_ok_weaker}
use Rattle.mintc_fraction.specs.Ratio.{over}
use Rattle.mintc_timing.specs.Design.{element_at}
use Rattle.mintcx_amounts.specs.Amounts.{amount_text}
use Rattle.mintcx_frame.specs.Names.{element_name}
use Rattle.mintcx_judgements.specs.Shown.{timed}
use Rattle.mintcx_judgements.proofs.WideLaws.{read_wide, wide}
use Rattle.mintcx_judgements.proofs.WrittenLaws.{claimed}
use Rattle.mintcx_judgements.proofs.rules.put_asking.Goals as goal

pub returns : goal.returns
returns c =
    let unit = c.args.told.now.unit in
    let s = c.args.told.now.schedule.now in
    let design = c.args.told.now.system.now.flat in
    let l = c.in-Some.element in
    let range = c.scaled-wants.ensures.range in
    let kept = c.element.ensures.kept.width in
    let width : to_z w64 (of_z w64 c.element.result.now.width) ≡ c.element.result.now.width = omega (arith, ints, kept) in
    let wants : wide c.scaled-wants.result ≡ (element_at design l).width *ℤ s.den =
    read_wide c.scaled-wants.result (omega (arith, ints), omega (arith, ints)) ∙ c.scaled-wants.ensures.value
    ∙ ap (λ x. x *ℤ s.den) width ∙ ap (λ e. e.width *ℤ s.den) c.element.ensures.value in
    on_ok_weaker c.put_timed.result
    (λ e. rw c.in-Some.is
    (claimed c.args.lines.now c.put-2.new.self c.put-3.new.self c.put_timed.new.lines (codes " wide, ") (element_name design l) (codes " wants pulses of ")
    (amount_text unit (over ((element_at design l).width *ℤ s.den) s.den)) c.in_ok-put.ensures.ok
    (c.in_ok-put-2.ensures.ok ∙ ap (λ v. c.put-2.new.self ++ v) c.element_name.ensures)
    (e ∙ ap (λ x. c.put-3.new.self ++ timed unit s (codes " wants pulses of ") x) wants)))
    c.put_timed.ensures
