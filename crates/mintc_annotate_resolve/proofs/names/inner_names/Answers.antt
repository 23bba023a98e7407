use Rattle.std.proofs.Common.{arith}
use Rattle.std.proofs.lemmas.Grind.{common_steps}
use Rattle.mintc_annotate_resolve.proofs.names.inner_names.Goals as goal

pub loop-bit-preserved : goal.loop-bit-preserved
loop-bit-preserved c = grind (arith, common_steps)

pub returns : goal.returns
returns c = grind (arith, common_steps)
