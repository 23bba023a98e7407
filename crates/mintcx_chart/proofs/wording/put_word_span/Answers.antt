use Rattle.std.proofs.Common.{◌++◌, ℤ, w64, ap, ◌∙◌}
use Rattle.std.specs.Prelude.{codes}
use Rattle.std.proofs.lemmas.Int.{to_z-of_z}
use Rattle.std.proofs.lemmas.Result.{on_ok_weaker}
use Rattle.mintcx_chart.specs.Words.{span_text}
use Rattle.mintcx_chart.proofs.SharedWrittenLaws.{in_three}
use Rattle.mintcx_chart.proofs.wording.put_word_span.Goals as goal

pub returns : goal.returns
returns c =
    on_ok_weaker c.put_span.result
    (λ e. in_three c.args.lines.now c.put.new.self c.put-2.new.self c.put_span.new.lines c.args.word.now (codes " ") (span_text c.args.unit c.args.span)
    c.in_ok-put.ensures.ok c.in_ok-put-2.ensures.ok
    (e ∙ ap (λ (x : ℤ). c.put-2.new.self ++ span_text c.args.unit x) (to_z-of_z w64 c.args.span c.ranges.span)))
    c.put_span.ensures
