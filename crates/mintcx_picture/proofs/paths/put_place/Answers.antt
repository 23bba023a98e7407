use Rattle.std.specs.Prelude.{codes, decimal}
use Rattle.std.proofs.lemmas.Result.{on_ok_weaker}
use Rattle.mintcx_picture.proofs.WrittenLaws.{in_four}
use Rattle.mintcx_picture.proofs.paths.put_place.Goals as goal

pub returns : goal.returns
returns c =
    on_ok_weaker c.put_decimal-2.result
    (λ e. in_four c.args.lines.now c.put.new.self c.put_decimal.new.lines c.put-2.new.self c.put_decimal-2.new.lines
    c.args.letter.now (decimal c.args.x) (codes " ") (decimal c.args.y)
    c.in_ok-put.ensures.ok c.in_ok-put_decimal.ensures c.in_ok-put-2.ensures.ok e)
    c.put_decimal-2.ensures
