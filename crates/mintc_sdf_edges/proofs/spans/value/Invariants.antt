use Rattle.std.proofs.Common.{◌≡◌, length}
use Rattle.mintc_sdf_tokens.specs.Reading.{inside}
use Rattle.mintc_sdf_edges.specs.Spans.{value_span}
use Rattle.mintc_sdf_edges.proofs.SpanLaws.{widened}
use Rattle.mintc_sdf_edges.proofs.spans.value.Given as goal

-- what is left completes what is known
abbrev pub invariant-loop-reader : goal.invariant-loop-reader
invariant-loop-reader l = inside (value_span l.scale) l.initial.reader ≡ widened l.span (inside (value_span l.scale) l.reader)

abbrev pub decreases-loop-reader : goal.decreases-loop-reader
decreases-loop-reader l = length l.reader
