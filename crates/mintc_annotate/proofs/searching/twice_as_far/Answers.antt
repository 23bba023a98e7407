use Rattle.std.proofs.Common.{arith}
use Rattle.std.proofs.lemmas.Grind.{common_steps}
use Rattle.mintc_annotate.proofs.searching.twice_as_far.Goals as goal

pub loop-jump-preserved : goal.loop-jump-preserved
loop-jump-preserved c = grind (arith, common_steps)
