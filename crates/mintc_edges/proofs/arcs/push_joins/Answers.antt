use Rattle.std.proofs.Common.{arith}
use Rattle.std.proofs.lemmas.Grind.{common_steps}
use Rattle.mintc_edges.proofs.arcs.push_joins.Goals as goal

pub loop-join-preserved : goal.loop-join-preserved
loop-join-preserved c = grind (arith, common_steps)

pub returns : goal.returns
returns c = grind (arith, common_steps)

pub loop-join-init : goal.loop-join-init
loop-join-init c = grind (arith, common_steps)
