use Rattle.std.proofs.Common.{arith}
use Rattle.std.proofs.lemmas.Grind.{common_steps}
use Rattle.mintc_annotate_resolve.proofs.ports.bit_of.Goals as goal

pub returns-then-eq : goal.returns-then-eq
returns-then-eq c = grind (arith, common_steps)

pub loop-bit-preserved : goal.loop-bit-preserved
loop-bit-preserved c = grind (arith, common_steps)

pub returns : goal.returns
returns c = grind (arith, common_steps)
