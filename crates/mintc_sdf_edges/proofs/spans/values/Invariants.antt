use Rattle.std.proofs.Common.{◌≡◌, length}
use Rattle.mintc_sdf_tokens.specs.Reading.{inside}
use Rattle.mintc_sdf_edges.specs.Spans.{value_spans}
use Rattle.mintc_sdf_edges.proofs.SpanLaws.{appended}
use Rattle.mintc_sdf_edges.proofs.spans.values.Given as goal

-- what is left completes what is known
abbrev pub invariant-loop-reader : goal.invariant-loop-reader
invariant-loop-reader l = inside (value_spans l.scale) l.initial.reader ≡ appended l.spans.items (inside (value_spans l.scale) l.reader)

abbrev pub decreases-loop-reader : goal.decreases-loop-reader
decreases-loop-reader l = length l.reader
