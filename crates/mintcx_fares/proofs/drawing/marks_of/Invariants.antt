use Rattle.std.proofs.Common.{◌≤ℤ◌}
use Rattle.mintcx_chart.specs.Ranges.{IsDrawnTime}
use Rattle.mintcx_fares.proofs.drawing.marks_of.Given as goal

-- the stretch so far is in its range
abbrev pub invariant-loop-item : goal.invariant-loop-item
invariant-loop-item l = record {
  first : IsDrawnTime l.span.first;
  last : IsDrawnTime l.span.last;
  ordered : l.span.first ≤ℤ l.span.last;
}
