use Rattle.std.proofs.Common.{sym, ap, ◌∙◌}
use Rattle.mintc_sdf_tokens.specs.Reading.{inside, after_opening}
use Rattle.mintc_sdf_edges.specs.Spans.{value_spans}
use Rattle.mintc_sdf.proofs.SharedCarriedLaws.{passed-on}
use Rattle.mintc_sdf_edges.proofs.SpanLaws.{appended, appended-start, values-end, values-other, values-bad, values-step}
use Rattle.mintc_sdf_edges.proofs.spans.values.Goals as goal

pub loop-reader-init : goal.loop-reader-init
loop-reader-init c = appended-start _ (inside (value_spans c.args.scale) c.args.reader.now) c.truncate.ensures.items

pub returns : goal.returns
returns c = values-end c.args.scale c.loop-reader.spans.items _ c.loop-reader.reader c.loop-reader.invariant _ c.loop-reader-test.ensures

pub returns-in_err-read_opening : goal.returns-in_err-read_opening
returns-in_err-read_opening c =
    passed-on c.from_residual.result c.in_err-read_opening.field-0.0 _ _ _ c.from_residual.ensures.1
    (λ e. values-other c.args.scale c.loop-reader.spans.items _ c.loop-reader.reader c.loop-reader.invariant c.loop-reader-test.ensures.0 (ap after_opening (sym c.loop-reader-test.ensures.1) ∙ e)) c.in_err-read_opening.ensures

pub returns-in_err-span : goal.returns-in_err-span
returns-in_err-span c =
    passed-on c.from_residual-in_err-span.result c.in_err-span.field-0.0 _ _ _ c.from_residual-in_err-span.ensures.1
    (λ e. values-bad c.args.scale c.loop-reader.spans.items _ c.loop-reader.reader c.loop-reader.invariant c.read_opening.new.reader (ap after_opening (sym c.loop-reader-test.ensures.1) ∙ c.in_ok-read_opening.ensures) e) c.in_err-span.ensures

pub loop-reader-smaller : goal.loop-reader-smaller
loop-reader-smaller c =
    (values-step c.args.scale c.loop-reader.spans.items _ c.loop-reader.reader c.loop-reader.invariant c.read_opening.new.reader c.value.new.reader c.in_ok-span.span
    (ap after_opening (sym c.loop-reader-test.ensures.1) ∙ c.in_ok-read_opening.ensures) c.in_ok-span.ensures).1

pub loop-reader-preserved : goal.loop-reader-preserved
loop-reader-preserved c =
    (values-step c.args.scale c.loop-reader.spans.items _ c.loop-reader.reader c.loop-reader.invariant c.read_opening.new.reader c.value.new.reader c.in_ok-span.span
    (ap after_opening (sym c.loop-reader-test.ensures.1) ∙ c.in_ok-read_opening.ensures) c.in_ok-span.ensures).0
    ∙ ap (λ ss. appended ss (inside (value_spans c.args.scale) c.value.new.reader)) (sym c.in_ok-push_span.ensures)
