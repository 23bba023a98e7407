use Rattle.std.proofs.Common.{◌≡◌, ◌<◌, ◌+◌, ◌/◌, ◌%◌, ℕ, IsTrue, ◌↔◌, false, get_or, length}
use Rattle.mintc_checker.proofs.Fed.{IsFedFrom}
use Rattle.mintc_checker.proofs.schedule_tests.feeds_table.Given as goal

-- the places so far
abbrev pub invariant-loop-place : goal.invariant-loop-place
invariant-loop-place l = record {
  count : length l.fed ≡ 64;
  each : (k : ℕ) → k < l.place → IsTrue (get_or l.fed k false) ↔ IsFedFrom l.departing.flat.now l.labels (k / 8 + 1) (k % 8 + 1);
}
