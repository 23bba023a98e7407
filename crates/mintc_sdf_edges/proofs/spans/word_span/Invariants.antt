use Rattle.std.proofs.Common.{◌≡◌, ◌≤◌, length}
use Rattle.mintc_sdf.specs.Forms.{parts_of}
use Rattle.mintc_sdf_edges.specs.Spans.{wider_of, parts_span}
use Rattle.mintc_sdf_edges.proofs.spans.word_span.Given as goal

-- what is known and what is left
abbrev pub invariant-loop-rest : goal.invariant-loop-rest
invariant-loop-rest l = record {
  few : length l.rest ≤ length l.word;
  whole : parts_span l.scale (parts_of l.word) ≡ wider_of l.span (parts_span l.scale (parts_of l.rest));
}

abbrev pub decreases-loop-rest : goal.decreases-loop-rest
decreases-loop-rest l = length l.rest
