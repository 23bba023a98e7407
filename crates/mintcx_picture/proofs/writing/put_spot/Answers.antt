use Rattle.std.specs.Prelude.{codes}
use Rattle.std.proofs.lemmas.Result.{on_ok_weaker}
use Rattle.mintcx_picture.specs.Attributes.{numbered}
use Rattle.mintcx_picture.proofs.WrittenLaws.{in_two}
use Rattle.mintcx_picture.proofs.writing.put_spot.Goals as goal

pub returns : goal.returns
returns c =
    on_ok_weaker c.put_numbered-2.result
    (λ e. in_two c.args.lines.now c.put_numbered.new.lines c.put_numbered-2.new.lines
    (numbered (codes " x=\"") c.args.x) (numbered (codes " y=\"") c.args.y)
    c.in_ok-put_numbered.ensures e)
    c.put_numbered-2.ensures
