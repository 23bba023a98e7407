use Rattle.std.proofs.Common.{◌+◌, arith}
use Rattle.mintc_timing.proofs.SharedFitting.{IsTime-IsNumerator}
use Rattle.mintc_optimise.proofs.TimesLaws.{said_more}
use Rattle.mintc_optimise.proofs.times.widths.Goals as goal

pub loop-index-preserved : goal.loop-index-preserved
loop-index-preserved c =
    said_more 1 c.loop-index.index (c.loop-index.index + 1) c.width.result c.loop-index.widths.items c.push.new.self.items (omega arith)
    (IsTime-IsNumerator c.width.result c.width.ensures.in_range) c.width.ensures.value c.width.ensures.in_range c.loop-index.invariant c.push.ensures.items
