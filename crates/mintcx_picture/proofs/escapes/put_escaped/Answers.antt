use Rattle.std.proofs.Common.{get_or}
use Rattle.std.proofs.lemmas.List.{get_or_default}
use Rattle.mintcx_picture.specs.Escapes.{escape_of}
use Rattle.mintcx_picture.proofs.WrittenLaws.{items_more}
use Rattle.mintcx_picture.proofs.escapes.put_escaped.Goals as goal

pub loop-byte-preserved : goal.loop-byte-preserved
loop-byte-preserved c =
    let text = c.args.text.now in
    let i = c.loop-byte.byte-index in
    let byte = get_or text i 0 in
    let below = c.loop-byte-test.true in
    items_more escape_of text i byte c.args.lines.now c.loop-byte.lines c.put_byte.new.lines below (get_or_default text i 0 byte below)
    c.loop-byte.invariant c.in_ok-put_byte.ensures
