use Rattle.std.proofs.Common.{arith}
use Rattle.std.proofs.lemmas.Int.{ints, clamps}
use Rattle.mintcx_chart.proofs.times.time_after.Goals as goal

pub returns-clause-low : goal.returns-clause-low
returns-clause-low c = omega (arith, ints, clamps, c.requires.low, c.requires.high, c.from.ensures, c.span_time.ensures.low, c.span_time.ensures.high)

pub returns-clause-high : goal.returns-clause-high
returns-clause-high c = omega (arith, ints, clamps, c.requires.low, c.requires.high, c.from.ensures, c.span_time.ensures.low, c.span_time.ensures.high)
