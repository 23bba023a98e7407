use Rattle.std.proofs.Common.{pos, get_or, SFits, w64, rules}
use Rattle.std.proofs.lemmas.Int.{to_z-of_z}
use Rattle.mintc_report.proofs.AnswerLaws.{elements_more}
use Rattle.mintc_report.proofs.pass.put_elements.Goals as goal

pub loop-number-preserved : goal.loop-number-preserved
loop-number-preserved c =
    let late_fits : SFits w64 (get_or c.args.late.now c.loop-number.number (pos 0)) = search rules in
    let early_fits : SFits w64 (get_or c.args.early.now c.loop-number.number (pos 0)) = search rules in
    elements_more c.args.elements.now _ c.args.late.now c.args.early.now c.loop-number.number c.args.lines.now c.loop-number.lines c.put_element.new.lines
    c.bytes.result.now c.index-elements-number.result c.lowest.result c.lowest-in-loop-number.result
    c.loop-number.invariant c.loop-number-test.true c.bytes.ensures
    (rw (to_z-of_z w64 _ late_fits) at c.lowest.ensures) (rw (to_z-of_z w64 _ early_fits) at c.lowest-in-loop-number.ensures) c.in_ok-put_element.ensures
