use Rattle.std.proofs.Common.{◌≡◌, [], ◌∷◌, ◌++◌, ap, ◌∙◌, arith}
use Rattle.std.specs.Prelude.{codes}
use Rattle.std.proofs.lemmas.Int.{ints}
use Rattle.std.proofs.lemmas.Result.{on_ok_weaker}
use Rattle.mintc_timing.specs.Departures.{departure, late_departure}
use Rattle.mintcx_judgements.specs.Data.{element_in_words}
use Rattle.mintcx_judgements.specs.Shown.{timed}
use Rattle.mintcx_verdicts.proofs.WideLaws.{wide}
use Rattle.mintcx_verdicts.proofs.WrittenLaws.{in_five}
use Rattle.mintcx_verdicts.proofs.elements.put_inexact.Goals as goal

pub returns : goal.returns
returns c =
    let judging = c.args.arrived.now.judging in
    let t = judging.told.system.now in
    let s = judging.told.schedule.now in
    let d = judging.departures.now in
    let unit = judging.told.unit in
    let l = c.args.element in
    let made : wide c.from-made.result ≡ c.made.result = omega (arith, ints, c.from-made.ensures, c.made.type_inv) in
    let said : wide c.from-said.result ≡ c.departure.result = omega (arith, ints, c.from-said.ensures, c.departure.type_inv) in
    on_ok_weaker c.put-2.result
    (λ e. in_five c.args.lines.now (codes "  ") (element_in_words t.flat l) (timed unit s (codes " departs at ") (late_departure t s d l))
    (timed unit s (codes " by the others, the certificate says ") (departure d l)) (10 ∷ []) c.in_ok-put.ensures.ok c.in_ok-put_element.ensures
    (c.in_ok-put_timed.ensures ∙ ap (λ x. c.put_element.new.lines ++ timed unit s (codes " departs at ") x) (made ∙ c.made.ensures))
    (c.in_ok-put_timed-2.ensures ∙ ap (λ x. c.put_timed.new.lines ++ timed unit s (codes " by the others, the certificate says ") x) (said ∙ c.departure.ensures.value))
    e)
    c.put-2.ensures.ok
