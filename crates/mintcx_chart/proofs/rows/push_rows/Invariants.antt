use Rattle.std.proofs.Common.{take}
use Rattle.mintcx_chart.specs.Rows.{HasRows}
use Rattle.mintcx_chart.proofs.rows.push_rows.Given as goal

-- the layers of the rows so far are there
abbrev pub invariant-loop-lane : goal.invariant-loop-lane
invariant-loop-lane l = HasRows (take l.lane-index l.sheet.lanes.now) l.fn.layers.items l.layers.items
