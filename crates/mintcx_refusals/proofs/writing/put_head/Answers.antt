use Rattle.std.proofs.Common.{◌++◌, ◌∷◌, [], ◌∙◌, ap, decimal}
use Rattle.std.specs.Prelude.{codes}
use Rattle.std.proofs.lemmas.Result.{on_ok_weaker}
use Rattle.mintc_text.specs.Refusals.{refusal_number}
use Rattle.mintcx_refusals.proofs.WrittenLaws.{in_five}
use Rattle.mintcx_refusals.proofs.writing.put_head.Goals as goal

pub returns : goal.returns
returns c =
    on_ok_weaker c.put-4.result
    (λ e. in_five c.args.lines.now (codes "error[") (decimal (refusal_number c.args.refusal.now)) (codes "]: ") c.args.what.now (10 ∷ [])
    c.in_ok-put.ensures.ok (c.in_ok-put_number.ensures ∙ ap (λ n. c.put.new.self ++ decimal n) c.refusal_number.ensures)
    c.in_ok-put-2.ensures.ok c.in_ok-put-3.ensures.ok e)
    c.put-4.ensures.ok
