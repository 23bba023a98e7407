use Rattle.std.proofs.Common.{◌≡◌, ◌≤◌, ◌+◌, ◌*◌, length, map}
use Rattle.std.specs.Prelude.{All}
use Rattle.std.specs.List.{range_with_len}
use Rattle.mintcx_chart.specs.Sheets.{IsLane}
use Rattle.mintcx_chart.specs.Stretches.{times_of}
use Rattle.mintcx_draw.specs.Lanes.{facts_at, first_times, lane_facts}
use Rattle.mintcx_draw.proofs.chain.first_lanes.Given as goal

-- the rows so far are those of the first stages, in their ranges
abbrev pub invariant-loop-number : goal.invariant-loop-number
invariant-loop-number l = record {
  each : All IsLane l.lanes.items;
  count : length l.lanes.items ≡ l.number;
  facts : map lane_facts l.lanes.items ≡ map (facts_at l.told.flat.now l.told.schedule.now.den l.staged.stages.now l.staged.rows.now) (range_with_len 0 l.number);
  times : times_of l.told.schedule.now.cycle l.lanes.items ≡ first_times l.told.flat.now l.told.schedule.now l.staged.stages.now l.staged.rows.now l.number;
  least : 138 ≤ l.below;
  most : l.below ≤ 426 + l.number * 58;
}
