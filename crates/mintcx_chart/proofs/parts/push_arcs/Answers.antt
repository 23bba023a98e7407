use Rattle.std.proofs.Common.{arith}
use Rattle.std.proofs.lemmas.Int.{ints, clamps}
use Rattle.mintcx_chart.proofs.parts.push_arcs.Goals as goal

pub loop-number-preserved : goal.loop-number-preserved
loop-number-preserved c = record {
  low = omega (arith, ints, clamps, c.loop-number.invariant.low, c.loop-number.at-is, c.time_after-at.ensures.low);
  high = omega (arith, ints, clamps, c.loop-number.invariant.high, c.loop-number.at-is, c.time_after-at.ensures.high);
}
