use Rattle.std.proofs.Common.{◌++◌, ap, ◌∙◌}
use Rattle.std.proofs.lemmas.Result.{on_ok_weaker}
use Rattle.mintc_fraction.specs.Ratio.{over}
use Rattle.mintcx_amounts.specs.Amounts.{amount_text}
use Rattle.mintcx_judgements.proofs.WideLaws.{read_wide}
use Rattle.mintcx_judgements.proofs.WrittenLaws.{appended}
use Rattle.mintcx_judgements.proofs.shown.put_timed.Goals as goal

pub returns : goal.returns
returns c =
    let unit = c.args.told.now.unit in
    let den = c.args.told.now.schedule.now.den in
    on_ok_weaker c.put_amount.result
    (λ e. appended c.args.lines.now c.put.new.self c.put_amount.new.lines c.args.words.now (amount_text unit (over c.args.time den)) c.in_ok-put.ensures.ok
    (e ∙ ap (λ f. c.put.new.self ++ amount_text unit f) (c.fraction.ensures.value ∙ ap (λ x. over x den) (read_wide c.args.time c.requires))))
    c.put_amount.ensures.ok
