use Rattle.std.proofs.Common.{arith}
use Rattle.std.proofs.lemmas.Grind.{common_steps}
use Rattle.mintc_flatten.proofs.walk.begin.Goals as goal

pub bounds-source-top-2 : goal.bounds-source-top-2
bounds-source-top-2 c = grind (arith, common_steps)

pub push_nets-requires : goal.push_nets-requires
push_nets-requires c = grind (arith, common_steps)

pub returns : goal.returns
returns c = grind (arith, common_steps)
