use Rattle.std.proofs.Common.{arith}
use Rattle.std.proofs.lemmas.Int.{ints, clamps}
use Rattle.mintc_edges.proofs.elements.opening.Goals as goal

pub returns : goal.returns
returns c = omega (arith, ints, clamps, c.max-late.ensures.value, c.from.ensures, c.from-2.ensures, c.from-3.ensures, c.ranges.merged_dq, c.ranges.merged_cq, c.ranges.own_cq)
