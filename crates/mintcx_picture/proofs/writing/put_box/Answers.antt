use Rattle.std.specs.Prelude.{codes}
use Rattle.std.proofs.lemmas.Result.{on_ok_weaker}
use Rattle.mintcx_picture.specs.Attributes.{numbered}
use Rattle.mintcx_picture.specs.Forms.{spot_text}
use Rattle.mintcx_picture.proofs.WrittenLaws.{in_three}
use Rattle.mintcx_picture.proofs.writing.put_box.Goals as goal

pub returns : goal.returns
returns c =
    on_ok_weaker c.put_numbered-2.result
    (λ e. in_three c.args.lines.now c.put_spot.new.lines c.put_numbered.new.lines c.put_numbered-2.new.lines
    (spot_text c.args.x c.args.y) (numbered (codes " width=\"") c.args.width) (numbered (codes " height=\"") c.args.height)
    c.in_ok-put_spot.ensures c.in_ok-put_numbered.ensures e)
    c.put_numbered-2.ensures
