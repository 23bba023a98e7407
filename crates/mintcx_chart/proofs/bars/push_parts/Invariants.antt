use Rattle.std.proofs.Common.{take}
use Rattle.mintcx_chart.specs.Rows.{AreParts}
use Rattle.mintcx_chart.proofs.bars.push_parts.Given as goal

-- the bars of the parts so far are there
abbrev pub invariant-loop-part : goal.invariant-loop-part
invariant-loop-part l = AreParts l.sheet.scale l.sheet.unit l.lane (take l.part-index l.lane.parts) l.forms.items
