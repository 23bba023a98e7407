use Rattle.std.proofs.Common.{rules}
use Rattle.mintc_report.proofs.AnswerLaws.{lowest_as}
use Rattle.mintc_report.proofs.SummaryLaws.{summary_written}
use Rattle.mintc_report.proofs.summary.least_summary.Goals as goal

pub returns : goal.returns
returns c =
    let s = c.args.schedule.now in
    let cycle = lowest_as c.args.schedule.now.cycle c.args.schedule.now.den c.lowest.result (search rules) (search rules) c.lowest.ensures in
    summary_written c.args.number c.args.system.now s c.lowest.result c.new-lines.result c.put_counts.new.lines c.put_cycle.new.lines c.into_bytes.result.items
    cycle c.new-lines.ensures c.in_ok-put_counts.ensures c.in_ok-put_cycle.ensures c.into_bytes.ensures
