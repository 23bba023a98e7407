use Rattle.std.proofs.Common.{◌≤◌, arith}
use Rattle.mintcx_json.specs.Slacks.{no_slacks_value}
use Rattle.mintcx_json.proofs.DepthLaws as depths
use Rattle.mintcx_json.proofs.TextLaws.{whole_text}
use Rattle.mintcx_json.proofs.slacks.never_json.Goals as goal

pub returns : goal.returns
returns c =
    let subject = c.args.subject.now in
    let shallow = depths.no_slacks subject in
    whole_text c.into_text.result (no_slacks_value subject) c.new-sheet.result c.put_no_slacks.new.sheet c.new-sheet.ensures c.in_ok-put_no_slacks.ensures
    (omega (arith, shallow)) c.into_text.ensures.reads_back c.into_text.ensures.text
