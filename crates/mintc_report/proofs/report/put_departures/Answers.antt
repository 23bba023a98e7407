use Rattle.std.proofs.Common.{pos, get_or, SFits, w64, rules}
use Rattle.std.proofs.lemmas.Int.{to_z-of_z}
use Rattle.mintc_report.proofs.ReportLaws.{late_more}
use Rattle.mintc_report.proofs.report.put_departures.Goals as goal

pub loop-number-preserved : goal.loop-number-preserved
loop-number-preserved c =
    let fits : SFits w64 (get_or c.args.late.now c.loop-number.number (pos 0)) = search rules in
    late_more c.args.elements.now _ c.args.late.now c.loop-number.number c.args.lines.now c.loop-number.lines c.put_late.new.lines
    c.bytes.result.now c.index-elements-number.result c.lowest.result
    c.loop-number.invariant c.loop-number-test.true c.bytes.ensures (rw (to_z-of_z w64 _ fits) at c.lowest.ensures) c.in_ok-put_late.ensures
