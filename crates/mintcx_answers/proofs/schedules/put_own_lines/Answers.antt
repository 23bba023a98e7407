use Rattle.std.specs.Prelude.{codes}
use Rattle.std.proofs.lemmas.Result.{on_ok_weaker}
use Rattle.mintc_timing_text.specs.LineForms.{schedule_lines}
use Rattle.mintcx_answers.proofs.ScheduleLaws.{lines-written}
use Rattle.mintcx_answers.proofs.schedules.put_own_lines.Goals as goal

pub returns : goal.returns
returns c =
    on_ok_weaker c.put-2.result
    (λ e. lines-written c.args.lines.now c.put.new.self c.put_schedule.new.lines c.put-2.new.self (codes "schedule 1") (codes "end") (schedule_lines c.args.schedule.now) c.in_ok-put.ensures.ok
    c.in_ok-put_schedule.ensures e)
    c.put-2.ensures.ok
