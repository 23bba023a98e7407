use Rattle.std.proofs.Common.{◌++◌, pos, ap, ◌∙◌}
use Rattle.std.specs.Prelude.{codes}
use Rattle.std.proofs.lemmas.Result.{on_ok_weaker}
use Rattle.mintc_fraction.specs.Ratio.{over}
use Rattle.mintcx_frame.specs.Ends.{time_text}
use Rattle.mintcx_verdicts.specs.Chains.{laps_of, laps_text}
use Rattle.mintcx_verdicts.proofs.WrittenLaws.{in_four}
use Rattle.mintcx_verdicts.proofs.sums.put_takes.Goals as goal

pub returns : goal.returns
returns c =
    let unit = c.args.unit in
    let sums = c.args.sums.now in
    on_ok_weaker c.put_laps.result
    (λ e. in_four c.args.lines.now (codes "  the chain takes ") (time_text unit (over sums.delay (pos 1))) (codes " in ") (laps_text (laps_of sums)) c.in_ok-put.ensures.ok
    (c.in_ok-put_time.ensures ∙ ap (λ x. c.put.new.self ++ time_text unit x) c.delay.ensures.value) c.in_ok-put-2.ensures.ok
    (e ∙ ap (λ n. c.put-2.new.self ++ laps_text n) c.laps.ensures))
    c.put_laps.ensures
