use Rattle.std.proofs.Common.{◌∷◌, [], decimal}
use Rattle.std.specs.Prelude.{codes}
use Rattle.std.proofs.lemmas.Result.{on_ok_weaker}
use Rattle.mintcx_refusals.proofs.WrittenLaws.{in_six}
use Rattle.mintcx_refusals.proofs.writing.put_note_text.Goals as goal

pub returns : goal.returns
returns c =
    on_ok_weaker c.put-5.result
    (λ e. in_six c.args.lines.now (codes "= note: `") c.args.own.now (codes "`; `mintcx explain ") (decimal c.args.number) (codes "` says more") (10 ∷ [])
    c.in_ok-put.ensures.ok c.in_ok-put-2.ensures.ok c.in_ok-put-3.ensures.ok c.in_ok-put_number.ensures c.in_ok-put-4.ensures.ok e)
    c.put-5.ensures.ok
