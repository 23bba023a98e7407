use Rattle.std.proofs.Common.{◌≡◌, ◌≤ℤ◌, take}
use Rattle.mintcx_chart.specs.Ranges.{IsDrawnTime}
use Rattle.mintcx_chart.specs.Stretches.{greatest_of, least_of, times_of}
use Rattle.mintcx_chart.proofs.stretch.with_lanes.Given as goal

-- the stretch so far has the times of the rows so far in it, and is in its range
abbrev pub invariant-loop-lane : goal.invariant-loop-lane
invariant-loop-lane l = record {
  least : l.span.first ≡ least_of l.fn.marks.first (times_of l.fn.cycle (take l.lane-index l.lanes));
  greatest : l.span.last ≡ greatest_of l.fn.marks.last (times_of l.fn.cycle (take l.lane-index l.lanes));
  first : IsDrawnTime l.span.first;
  last : IsDrawnTime l.span.last;
  ordered : l.span.first ≤ℤ l.span.last;
}
