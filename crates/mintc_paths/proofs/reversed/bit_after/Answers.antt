use Rattle.std.proofs.Common.{arith}
use Rattle.std.proofs.lemmas.Grind.{common_steps}
use Rattle.mintc_paths.proofs.reversed.bit_after.Goals as goal

pub returns-else-bit-eq1 : goal.returns-else-bit-eq1
returns-else-bit-eq1 c = grind (arith, common_steps)
