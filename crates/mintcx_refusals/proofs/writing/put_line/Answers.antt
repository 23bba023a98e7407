use Rattle.std.proofs.Common.{◌∷◌, []}
use Rattle.std.specs.Prelude.{codes}
use Rattle.std.proofs.lemmas.Result.{on_ok_weaker}
use Rattle.mintcx_refusals.proofs.WrittenLaws.{in_four}
use Rattle.mintcx_refusals.proofs.writing.put_line.Goals as goal

pub returns : goal.returns
returns c =
    on_ok_weaker c.put-4.result
    (λ e. in_four c.args.lines.now c.args.number.now (codes " | ") c.args.line.now (10 ∷ []) c.in_ok-put.ensures.ok c.in_ok-put-2.ensures.ok c.in_ok-put-3.ensures.ok e)
    c.put-4.ensures.ok
