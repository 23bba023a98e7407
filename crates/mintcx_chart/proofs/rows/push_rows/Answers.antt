use Rattle.mintcx_chart.proofs.SharedRowLaws.{rows_more}
use Rattle.mintcx_chart.proofs.rows.push_rows.Goals as goal

pub loop-lane-preserved : goal.loop-lane-preserved
loop-lane-preserved c =
    rows_more c.args.sheet.now.lanes.now c.loop-lane.lane-index c.lane-item.result c.args.layers.now.items c.loop-lane.layers.items c.push_row.new.layers.items
    c.loop-lane-test.true c.lane-item.is c.loop-lane.invariant c.in_ok-push_row.ensures
