use Rattle.std.proofs.Common.{◌∷◌, []}
use Rattle.std.specs.Prelude.{decimal}
use Rattle.std.proofs.lemmas.Result.{on_ok_weaker}
use Rattle.mintcx_picture.proofs.WrittenLaws.{in_three}
use Rattle.mintcx_picture.proofs.numbers.put_numbered.Goals as goal

pub returns : goal.returns
returns c =
    on_ok_weaker c.put-2.result
    (λ e. in_three c.args.lines.now c.put.new.self c.put_decimal.new.lines c.put-2.new.self
    c.args.name.now (decimal c.args.number) (34 ∷ [])
    c.in_ok-put.ensures.ok c.in_ok-put_decimal.ensures e)
    c.put-2.ensures.ok
