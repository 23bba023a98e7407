use Rattle.std.specs.Prelude.{codes, decimal}
use Rattle.std.proofs.lemmas.Result.{on_ok_weaker}
use Rattle.mintcx_picture.specs.Attributes.{numbered}
use Rattle.mintcx_picture.proofs.WrittenLaws.{in_five}
use Rattle.mintcx_picture.proofs.pictures.put_size.Goals as goal

pub returns : goal.returns
returns c =
    on_ok_weaker c.put_numbered-3.result
    (λ e. in_five c.args.lines.now c.put_numbered.new.lines c.put_numbered-2.new.lines c.put.new.self c.put_decimal.new.lines c.put_numbered-3.new.lines
    (numbered (codes " width=\"") c.args.head.now.width) (numbered (codes " height=\"") c.args.head.now.height) (codes " viewBox=\"0 0 ") (decimal c.args.head.now.width) (numbered (codes " ") c.args.head.now.height)
    c.in_ok-put_numbered.ensures c.in_ok-put_numbered-2.ensures c.in_ok-put.ensures.ok c.in_ok-put_decimal.ensures e)
    c.put_numbered-3.ensures
