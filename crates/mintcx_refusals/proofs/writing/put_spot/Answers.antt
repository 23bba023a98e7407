use Rattle.std.proofs.Common.{decimal}
use Rattle.std.specs.Prelude.{codes}
use Rattle.std.proofs.lemmas.Result.{on_ok_weaker}
use Rattle.mintcx_refusals.proofs.WrittenLaws.{in_five}
use Rattle.mintcx_refusals.proofs.writing.put_spot.Goals as goal

pub returns : goal.returns
returns c =
    on_ok_weaker c.put_number-2.result
    (λ e. in_five c.args.lines.now c.args.name.now (codes ":") (decimal c.args.spot.line) (codes ":") (decimal c.args.spot.column)
    c.in_ok-put.ensures.ok c.in_ok-put-2.ensures.ok c.in_ok-put_number.ensures c.in_ok-put-3.ensures.ok e)
    c.put_number-2.ensures
