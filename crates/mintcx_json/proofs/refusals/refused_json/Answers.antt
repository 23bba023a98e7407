use Rattle.std.proofs.Common.{◌≤◌, arith}
use Rattle.mintcx_json.specs.Refusals.{refused_value}
use Rattle.mintcx_json.proofs.RefusalLaws as depths
use Rattle.mintcx_json.proofs.TextLaws.{whole_text}
use Rattle.mintcx_json.proofs.refusals.refused_json.Goals as goal

pub returns : goal.returns
returns c =
    let told = c.args.told.now in
    let shallow = depths.refused told in
    whole_text c.into_text.result (refused_value told) c.new-sheet.result c.put_refused.new.sheet c.new-sheet.ensures c.in_ok-put_refused.ensures
    (omega (arith, shallow)) c.into_text.ensures.reads_back c.into_text.ensures.text
