use Rattle.std.proofs.Common.{arith}
use Rattle.std.proofs.lemmas.Grind.{common_steps}
use Rattle.mintc_annotate.proofs.elements.push_leaf.Goals as goal

pub returns : goal.returns
returns c = grind (arith, common_steps)
