use Rattle.std.proofs.Common.{◌++◌, ap, ◌∙◌}
use Rattle.std.specs.Prelude.{codes}
use Rattle.std.proofs.lemmas.Result.{on_ok_weaker}
use Rattle.mintc_fraction.specs.Ratio.{over}
use Rattle.mintcx_frame.specs.Ends.{subject_text, time_text, unit_for}
use Rattle.mintcx_verdicts.proofs.WrittenLaws.{in_six}
use Rattle.mintcx_verdicts.proofs.heads.put_least.Goals as goal

pub returns : goal.returns
returns c =
    let s = c.args.schedule.now in
    let view = c.args.view.now in
    let cycle = over s.cycle s.den in
    on_ok_weaker c.put_subject.result
    (λ e. in_six c.args.lines.now (codes "valid  cycle ") (time_text (unit_for view.unit cycle) cycle) (codes " is the least of all right schedules of ") c.args.design.now
    (codes ", and this schedule is right") (subject_text view.subject) c.in_ok-put.ensures.ok
    (c.in_ok-put_time.ensures ∙ ap (λ u. c.put.new.self ++ time_text u c.cycle_time-cycle.result) c.unit_for.ensures
    ∙ ap (λ x. c.put.new.self ++ time_text (unit_for view.unit x) x) c.cycle_time-cycle.ensures.value)
    c.in_ok-put-2.ensures.ok c.in_ok-put-3.ensures.ok c.in_ok-put-4.ensures.ok e)
    c.put_subject.ensures
