use Rattle.std.proofs.Common.{◌≡◌, ◌++◌, ap, ◌∙◌, arith, w64, to_z, of_z}
use Rattle.std.specs.Prelude.{codes}
use Rattle.std.proofs.lemmas.Int.{ints}
use Rattle.std.proofs.lemmas.Result.{on_ok_weaker}
use Rattle.mintcx_judgements.specs.Data.{element_in_words, soon_lines}
use Rattle.mintcx_judgements.specs.Shown.{about, measured}
use Rattle.mintcx_judgements.proofs.WrittenLaws.{line_and_rest}
use Rattle.mintcx_judgements.proofs.data.put_hold.Goals as goal

pub returns : goal.returns
returns c =
    let told = c.args.told.now in
    let says = about (codes "  hold   ") (element_in_words told.system.now.flat c.args.element) (codes " gets its next data ") in
    let amount : to_z w64 (of_z w64 c.args.amount) ≡ c.args.amount = omega (arith, ints, c.ranges.amount.sfits) in
    on_ok_weaker c.put_soon.result
    (λ e. line_and_rest c.args.lines.now c.put_untimely.new.lines c.put.new.self c.put_soon.new.lines
    (measured told.unit told.schedule.now says c.args.amount) (codes " too soon")
    (soon_lines told.system.now told.schedule.now c.args.early.now told.unit c.args.element c.args.earliest)
    (c.in_ok-put_untimely.ensures ∙ ap (λ x. c.args.lines.now ++ measured told.unit told.schedule.now says x) amount)
    c.in_ok-put.ensures.ok e)
    c.put_soon.ensures
