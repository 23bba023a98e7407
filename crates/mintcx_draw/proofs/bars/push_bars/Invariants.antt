use Rattle.std.proofs.Common.{take}
use Rattle.mintcx_chart.specs.Rows.{HasBars}
use Rattle.mintcx_draw.proofs.bars.push_bars.Given as goal

-- the layers of the bars so far are there
abbrev pub invariant-loop-at : goal.invariant-loop-at
invariant-loop-at l = HasBars l.chain.sheet.scale l.chain.sheet.unit (take l.at l.chain.sheet.lanes.now) l.fn.layers.items l.layers.items
