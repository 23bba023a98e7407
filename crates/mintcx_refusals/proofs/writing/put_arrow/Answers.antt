use Rattle.std.proofs.Common.{◌∷◌, []}
use Rattle.std.specs.Prelude.{codes, replicate}
use Rattle.std.proofs.lemmas.Result.{on_ok_weaker}
use Rattle.mintcx_refusals.specs.Messages.{spot_text}
use Rattle.mintcx_refusals.proofs.WrittenLaws.{in_four}
use Rattle.mintcx_refusals.proofs.writing.put_arrow.Goals as goal

pub returns : goal.returns
returns c =
    on_ok_weaker c.put-2.result
    (λ e. in_four c.args.lines.now (replicate c.args.margin 32) (codes "--> ") (spot_text c.args.name.now c.args.spot) (10 ∷ [])
    c.in_ok-put_times.ensures c.in_ok-put.ensures.ok c.in_ok-put_spot.ensures e)
    c.put-2.ensures.ok
