use Rattle.std.specs.Prelude.{decimal}
use Rattle.std.proofs.lemmas.Result.{on_ok_weaker}
use Rattle.mintcx_picture.proofs.WrittenLaws.{in_two}
use Rattle.mintcx_picture.proofs.paths.put_line.Goals as goal

pub returns : goal.returns
returns c =
    on_ok_weaker c.put_decimal.result
    (λ e. in_two c.args.lines.now c.put.new.self c.put_decimal.new.lines
    c.args.letter.now (decimal c.args.to)
    c.in_ok-put.ensures.ok e)
    c.put_decimal.ensures
