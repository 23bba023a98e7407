use Rattle.std.proofs.Common.{ap, ◌∙◌, ◌++◌, rules}
use Rattle.std.proofs.lemmas.Result.{on_ok_weaker}
use Rattle.mintc_text.specs.Lines.{text_of}
use Rattle.mintc_report.specs.Answers.{reach_lines}
use Rattle.mintc_report.proofs.AnswerLaws.{lowest_as, violation-written}
use Rattle.mintc_report.proofs.fail.put_violation.Goals as goal

pub returns : goal.returns
returns c =
    let amount = lowest_as c.args.violation.now.amount c.args.den c.lowest.result (search rules) c.ranges.den c.lowest.ensures in
    on_ok_weaker c.put_ring.result
    (λ e. violation-written c.args.pairs.now c.args.den c.args.violation.now c.lowest.result _ _ _ _
    amount c.in_ok-put_broken.ensures c.in_ok-put_amount.ensures
    (e ∙ ap (λ v. c.put_amount.new.lines ++ text_of (reach_lines c.args.pairs.now v)) c.ring.ensures)) c.put_ring.ensures
