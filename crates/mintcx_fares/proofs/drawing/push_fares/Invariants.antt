use Rattle.std.proofs.Common.{take}
use Rattle.mintcx_chart.specs.Rows.{HasBars}
use Rattle.mintcx_fares.specs.Drawings.{sources}
use Rattle.mintcx_fares.proofs.drawing.push_fares.Given as goal

-- the layers of the setups and holds so far are there
abbrev pub invariant-loop-number : goal.invariant-loop-number
invariant-loop-number l = HasBars l.sheet.scale l.sheet.unit (take l.number (sources l.sheet.lanes.now)) l.fn.layers.items l.layers.items
