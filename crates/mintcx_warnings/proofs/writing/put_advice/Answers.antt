use Rattle.std.proofs.Common.{◌∷◌, []}
use Rattle.std.specs.Prelude.{replicate}
use Rattle.std.proofs.lemmas.Result.{on_ok_weaker}
use Rattle.mintcx_warnings.proofs.WrittenLaws.{in_four}
use Rattle.mintcx_warnings.proofs.writing.put_advice.Goals as goal

pub returns : goal.returns
returns c =
    on_ok_weaker c.put-3.result
    (λ e. in_four c.args.lines.now (replicate c.args.margin 32) c.args.key.now c.args.said.now (10 ∷ []) c.in_ok-put_times.ensures c.in_ok-put.ensures.ok c.in_ok-put-2.ensures.ok e)
    c.put-3.ensures.ok
