use Rattle.std.proofs.Common.{◌≡◌, ◌≤◌, ◌+◌, ◌*◌, pos, neg_ℤ, ◌≤ℤ◌, map}
use Rattle.std.specs.List.{range_with_len}
use Rattle.mintcx_chain.specs.Rows.{AreInTime, begins_at, cycle_at, is_reach, row_at, stage_before}
use Rattle.mintcx_chain.proofs.rows.rows_of.Given as goal

-- the rows of the stages so far, and what is known where the next one begins
abbrev pub invariant-loop-stage : goal.invariant-loop-stage
invariant-loop-stage l = record {
  at_is : l.pace.at ≡ begins_at l.flat l.schedule l.departures l.stages l.stage-index;
  at_low : neg_ℤ (pos (1000000000000000 + l.stage-index * 400000000000000)) ≤ℤ l.pace.at;
  at_high : l.pace.at ≤ℤ pos (1000000000000000 + l.stage-index * 400000000000000);
  cycle_is : l.pace.cycle ≡ cycle_at l.stages l.stage-index;
  cycle_high : l.pace.cycle ≤ 1 + l.stage-index;
  comes_is : l.pace.comes ≡ is_reach (stage_before l.stages l.stage-index).why;
  rows_are : l.rows.items ≡ map (row_at l.flat l.schedule l.departures l.stages) (range_with_len 0 l.stage-index);
  times : AreInTime l.rows.items;
}
