use Rattle.std.proofs.Common.{◌∷◌, []}
use Rattle.std.specs.Prelude.{codes, replicate}
use Rattle.std.proofs.lemmas.Result.{on_ok_weaker}
use Rattle.mintcx_refusals.proofs.WrittenLaws.{in_six}
use Rattle.mintcx_refusals.proofs.writing.put_marks.Goals as goal

pub returns : goal.returns
returns c =
    let e = c.args.excerpt.now in
    on_ok_weaker c.put-3.result
    (λ done. in_six c.args.lines.now (replicate c.args.margin 32) (codes " | ") (replicate e.caret 32) (replicate e.marks 94) c.args.label.now (10 ∷ [])
    c.in_ok-put_times.ensures c.in_ok-put.ensures.ok c.in_ok-put_times-2.ensures c.in_ok-put_times-3.ensures c.in_ok-put-2.ensures.ok done)
    c.put-3.ensures.ok
