use Rattle.std.proofs.Common.{pos, get_or, ◌∙◌, subst, rules}
use Rattle.mintc_report.specs.Answers.{IsLowestOf}
use Rattle.mintc_report.proofs.AnswerLaws.{lowest_as}
use Rattle.mintc_report.proofs.ReportLaws.{phases_more}
use Rattle.mintc_report.proofs.report.put_phases.Goals as goal

pub loop-index-preserved : goal.loop-index-preserved
loop-index-preserved c =
    let s = c.args.schedule.now in
    let i = c.loop-index.index in
    let a : IsLowestOf (get_or c.items-starts.result.now i (pos 0)) s.den c.lowest.result =
    lowest_as (get_or c.items-starts.result.now c.loop-index.index (pos 0)) c.args.schedule.now.den _ (search rules) (search rules) c.lowest.ensures in
    let b : IsLowestOf (get_or c.items-widths.result.now i (pos 0)) s.den c.lowest-in-loop-index.result =
    lowest_as (get_or c.items-widths.result.now c.loop-index.index (pos 0)) c.args.schedule.now.den _ (search rules) (search rules) c.lowest-in-loop-index.ensures in
    phases_more c.args.names.now s i c.args.lines.now c.loop-index.lines c.put_phase.new.lines c.bytes.result.now c.index-names-index.result c.lowest.result c.lowest-in-loop-index.result
    c.loop-index.invariant c.loop-index-test.true (c.bytes.ensures ∙ c.index-names-index.is)
    (subst (λ v. IsLowestOf (get_or v i (pos 0)) s.den c.lowest.result) c.items-starts.ensures a)
    (subst (λ v. IsLowestOf (get_or v i (pos 0)) s.den c.lowest-in-loop-index.result) c.items-widths.ensures b) c.in_ok-put_phase.ensures
