use Rattle.std.proofs.Common.{length, sym, ap, ◌∙◌, arith}
use Rattle.mintc_sdf_tokens.specs.Reading.{inside, word_at}
use Rattle.mintc_sdf_tokens.proofs.SharedInsideLaws.{word-next}
use Rattle.mintc_sdf_edges.specs.Spans.{value_span}
use Rattle.mintc_sdf.proofs.SharedCarriedLaws.{passed-on}
use Rattle.mintc_sdf_edges.proofs.SpanLaws.{widened, widened-start, value-end, value-other, value-bad, value-step}
use Rattle.mintc_sdf_edges.proofs.spans.value.Goals as goal

pub loop-reader-init : goal.loop-reader-init
loop-reader-init c = widened-start (inside (value_span c.args.scale) c.args.reader.now)

pub returns : goal.returns
returns c = value-end c.args.scale c.loop-reader.span _ c.loop-reader.reader c.loop-reader.invariant _ c.loop-reader-test.ensures

pub returns-in_err-word : goal.returns-in_err-word
returns-in_err-word c =
    passed-on c.from_residual.result c.in_err-word.field-0.0 _ _ _ c.from_residual.ensures.1
    (λ e. value-other c.args.scale c.loop-reader.span _ c.loop-reader.reader c.loop-reader.invariant c.loop-reader-test.ensures.0 (ap word_at (sym c.loop-reader-test.ensures.1) ∙ e)) c.in_err-word.ensures

pub returns-in_default : goal.returns-in_default
returns-in_default c =
    value-bad c.args.scale c.loop-reader.span _ c.loop-reader.reader c.loop-reader.invariant c.in_ok-word.word.now c.read_word.new.reader
    (ap word_at (sym c.loop-reader-test.ensures.1) ∙ c.in_ok-word.ensures) (sym c.word_span.ensures ∙ c.in_default.is)

pub loop-reader-smaller : goal.loop-reader-smaller
loop-reader-smaller c =
    let next = word-next c.loop-reader.reader c.in_ok-word.word.now c.read_word.new.reader (ap word_at (sym c.loop-reader-test.ensures.1) ∙ c.in_ok-word.ensures) in
    omega (arith, ap length next)

pub loop-reader-preserved : goal.loop-reader-preserved
loop-reader-preserved c =
    value-step c.args.scale c.loop-reader.span _ c.loop-reader.reader c.loop-reader.invariant c.in_ok-word.word.now c.read_word.new.reader c.in-Some.next
    (ap word_at (sym c.loop-reader-test.ensures.1) ∙ c.in_ok-word.ensures) (sym c.word_span.ensures ∙ c.in-Some.is)
    ∙ ap (λ s. widened s (inside (value_span c.args.scale) c.read_word.new.reader)) (sym c.wider-span.ensures)
