use Rattle.std.proofs.Common.{◌≡◌, ◌==◌, false, ◌++◌, ap, ◌∙◌}
use Rattle.std.specs.Prelude.{codes}
use Rattle.std.proofs.lemmas.Result.{on_ok_weaker}
use Rattle.mintc_text.specs.Lines.{ended}
use Rattle.mintcx_verdicts.specs.Chains.{asks, laps_of, takes}
use Rattle.mintcx_verdicts.proofs.SumsLaws.{has_laps, stuck_with}
use Rattle.mintcx_verdicts.proofs.WrittenLaws.{stuck_written}
use Rattle.mintcx_verdicts.proofs.sums.put_stuck.Goals as goal

pub returns : goal.returns
returns c =
    let unit = c.args.unit in
    let sums = c.args.sums.now in
    let some : (laps_of sums == 0) ≡ false = has_laps c.laps.result (laps_of sums) c.laps.ensures c.if-laps-eq0.false in
    on_ok_weaker c.put-3.result
    (λ e. stuck_written c.args.lines.now (takes unit sums) (codes ", which forbids no cycle time of ") (asks unit sums) (codes " or more")
    c.in_ok-put_takes.ensures c.in_ok-put.ensures.ok c.in_ok-put_asks.ensures e
    ∙ ap (λ v. c.args.lines.now ++ ended v) (stuck_with unit sums some))
    c.put-3.ensures.ok
