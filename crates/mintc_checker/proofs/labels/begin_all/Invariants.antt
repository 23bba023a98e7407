use Rattle.std.proofs.Common.{◌≡◌, ◌+◌, length}
use Rattle.mintc_checker.specs.Course.{IsOutput}
use Rattle.mintc_checker.specs.Labels.{AreRows, IsStart}
use Rattle.mintc_checker.proofs.labels.begin_all.Given as goal

-- the elements so far are begun
abbrev pub invariant-loop-number : goal.invariant-loop-number
invariant-loop-number l = record {
  count : length l.rows ≡ l.places.given + 1;
  rows : AreRows l.departing.flat.now l.departing.den l.departing.departures.now (IsOutput l.number) IsStart l.places.of_bits.items l.rows;
}
