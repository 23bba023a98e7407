use Rattle.std.proofs.Common.{arith}
use Rattle.std.proofs.lemmas.Int.{ints, clamps}
use Rattle.mintcx_chart.proofs.parts.push_path.Goals as goal

pub push_arcs-requires-clause-low : goal.push_arcs-requires-clause-low
push_arcs-requires-clause-low c = omega (arith, ints, clamps, c.requires.time.0, c.time_after-out.ensures.low)

pub push_arcs-requires-clause-high : goal.push_arcs-requires-clause-high
push_arcs-requires-clause-high c = omega (arith, ints, clamps, c.requires.time.1, c.time_after-out.ensures.high)
