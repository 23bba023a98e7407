use Rattle.std.specs.Int.{int_max, int_min}
use Rattle.mintcx_chart.specs.Stretches.{lane_times}
use Rattle.mintcx_chart.proofs.StretchLaws.{lane_more}
use Rattle.mintcx_chart.proofs.WideLaws.{short}
use Rattle.mintcx_chart.proofs.stretch.with_lanes.Goals as goal

pub loop-lane-preserved : goal.loop-lane-preserved
loop-lane-preserved c =
    let lanes = c.args.lanes.now in
    let lane = c.lane-item.result in
    let times = lane_times (short c.args.cycle) in
    let now = c.with_lane-span.ensures in
    record {
      least = lane_more int_min times lanes c.loop-lane.lane-index lane c.args.marks.first c.loop-lane.span.first c.with_lane-span.result.first
          c.loop-lane-test.true c.lane-item.is c.loop-lane.invariant.least now.least;
      greatest = lane_more int_max times lanes c.loop-lane.lane-index lane c.args.marks.last c.loop-lane.span.last c.with_lane-span.result.last
          c.loop-lane-test.true c.lane-item.is c.loop-lane.invariant.greatest now.greatest;
      first = now.first;
      last = now.last;
      ordered = now.ordered;
    }
