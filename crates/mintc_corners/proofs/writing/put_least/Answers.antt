use Rattle.std.proofs.Common.{◌∷◌, ◌++◌, [], codes}
use Rattle.std.proofs.lemmas.Result.{on_ok_weaker}
use Rattle.mintc_timing_text.specs.LineForms.{schedule_lines}
use Rattle.mintc_certificate.proofs.SharedWritingLaws.{texts_joined}
use Rattle.mintc_corners.specs.CornerText.{all_departure_lines, corner_chain_lines}
use Rattle.mintc_corners.proofs.writing.put_least.Goals as goal

pub returns : goal.returns
returns c =
    let head = codes "corners 1" ∷ codes "least" ∷ [] in
    let timed = texts_joined c.args.lines.now c.put.new.self c.put_schedule.new.lines head (schedule_lines c.args.schedule.now) c.in_ok-put.ensures.ok c.in_ok-put_schedule.ensures in
    let departed = texts_joined c.args.lines.now c.put_schedule.new.lines c.put_all_departures.new.lines (head ++ schedule_lines c.args.schedule.now) (all_departure_lines c.args.corners.now)
    timed c.in_ok-put_all_departures.ensures in
    on_ok_weaker c.put_chain.result
    (texts_joined c.args.lines.now c.put_all_departures.new.lines c.put_chain.new.lines (head ++ schedule_lines c.args.schedule.now ++ all_departure_lines c.args.corners.now) (corner_chain_lines c.args.chain.now)
    departed)
    c.put_chain.ensures
