use Rattle.std.proofs.Common.{◌≡◌, ◌+◌, length}
use Rattle.mintc_checker.specs.Rows.{AreRowsAlong}
use Rattle.mintc_checker.proofs.labels.carry_all.Given as goal

-- the labels along the arcs so far
abbrev pub invariant-loop-place : goal.invariant-loop-place
invariant-loop-place l = record {
  count : length l.rows ≡ l.course.places.given + 1;
  rows : AreRowsAlong l.departing.flat.now l.departing.den l.departing.departures.now l.order l.course l.place l.rows;
}
