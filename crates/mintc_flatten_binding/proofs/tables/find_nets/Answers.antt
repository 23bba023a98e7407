use Rattle.std.proofs.Common.{arith}
use Rattle.std.proofs.lemmas.Grind.{common_steps}
use Rattle.mintc_flatten_binding.proofs.tables.find_nets.Goals as goal

pub loop-module-preserved : goal.loop-module-preserved
loop-module-preserved c = grind (arith, common_steps)

pub returns : goal.returns
returns c = grind (arith, common_steps)
