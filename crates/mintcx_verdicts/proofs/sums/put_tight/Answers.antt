use Rattle.std.proofs.Common.{◌≡◌, ◌==◌, false, ◌++◌, ap, ◌∙◌}
use Rattle.std.specs.Prelude.{codes}
use Rattle.std.proofs.lemmas.Result.{on_ok_weaker}
use Rattle.mintc_text.specs.Lines.{ended}
use Rattle.mintcx_amounts.specs.Amounts.{amount_text}
use Rattle.mintcx_verdicts.specs.Chains.{asks, laps_of, takes}
use Rattle.mintcx_verdicts.proofs.SumsLaws.{has_laps, tight_with}
use Rattle.mintcx_verdicts.proofs.WrittenLaws.{tight_written}
use Rattle.mintcx_verdicts.proofs.sums.put_tight.Goals as goal

pub returns : goal.returns
returns c =
    let unit = c.args.unit in
    let cycle = c.args.cycle.now in
    let sums = c.args.sums.now in
    let some : (laps_of sums == 0) ≡ false = has_laps c.laps.result (laps_of sums) c.laps.ensures c.if-laps-eq0.false in
    on_ok_weaker c.put-4.result
    (λ e. tight_written c.args.lines.now (takes unit sums) (codes ", which asks for ") (asks unit sums) (codes ", and the schedule has ") (amount_text unit cycle)
    c.in_ok-put_takes.ensures c.in_ok-put.ensures.ok c.in_ok-put_asks.ensures c.in_ok-put-2.ensures.ok c.in_ok-put_amount.ensures.ok e
    ∙ ap (λ v. c.args.lines.now ++ ended v) (tight_with unit sums some cycle))
    c.put-4.ensures.ok
