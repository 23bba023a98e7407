use Rattle.std.proofs.Common.{arith}
use Rattle.std.proofs.lemmas.Grind.{common_steps}
use Rattle.mintc_flatten.proofs.walk.Walk.scope.Goals as goal

pub bounds-source-number-2 : goal.bounds-source-number-2
bounds-source-number-2 c = grind (arith, common_steps)

pub push_nets-requires : goal.push_nets-requires
push_nets-requires c = grind (arith, common_steps)

pub returns : goal.returns
returns c = grind (arith, common_steps)
