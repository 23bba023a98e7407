use Rattle.std.proofs.Common.{◌≡◌, ◌++◌, ap, ◌∙◌, arith}
use Rattle.std.proofs.lemmas.Int.{ints}
use Rattle.std.proofs.lemmas.Result.{on_ok_weaker}
use Rattle.mintc_fraction.specs.Ratio.{over}
use Rattle.mintcx_frame.specs.Ends.{time_text}
use Rattle.mintcx_judgements.specs.Data.{element_in_words}
use Rattle.mintcx_judgements.specs.Shown.{measured}
use Rattle.mintcx_judgements.proofs.WideLaws.{wide}
use Rattle.mintcx_judgements.proofs.WrittenLaws.{claimed}
use Rattle.mintcx_judgements.proofs.data.put_untimely.Goals as goal

pub returns : goal.returns
returns c =
    let unit = c.args.told.now.unit in
    let s = c.args.told.now.schedule.now in
    let says = c.args.says.now in
    let amount : wide c.from.result ≡ c.args.amount = omega (arith, ints, c.from.ensures, c.ranges.amount.sfits) in
    on_ok_weaker c.put_measured.result
    (λ e. claimed c.args.lines.now c.put.new.self c.put_element.new.lines c.put_measured.new.lines c.args.kind.now
    (element_in_words c.args.told.now.system.now.flat c.args.element) says (time_text unit (over c.args.amount s.den)) c.in_ok-put.ensures.ok
    c.in_ok-put_element.ensures (e ∙ ap (λ x. c.put_element.new.lines ++ measured unit s says x) amount))
    c.put_measured.ensures
