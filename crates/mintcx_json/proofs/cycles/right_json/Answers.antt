use Rattle.std.proofs.Common.{◌≤◌, arith}
use Rattle.mintcx_json.specs.Cycles.{right_value}
use Rattle.mintcx_json.proofs.DepthLaws as depths
use Rattle.mintcx_json.proofs.TextLaws.{whole_text}
use Rattle.mintcx_json.proofs.cycles.right_json.Goals as goal

pub returns : goal.returns
returns c =
    let design = c.args.flat.now in
    let s = c.args.schedule.now in
    let d = c.args.departures.now in
    let subject = c.args.subject.now in
    let shallow = depths.right design s d subject in
    whole_text c.into_text.result (right_value design s d subject) c.new-sheet.result c.put_right.new.sheet c.new-sheet.ensures c.in_ok-put_right.ensures
    (omega (arith, shallow)) c.into_text.ensures.reads_back c.into_text.ensures.text
