use Rattle.std.proofs.Common.{arith}
use Rattle.std.proofs.lemmas.Grind.{common_steps}
use Rattle.mintc_paths.proofs.long.is_long.Goals as goal

pub returns-clause-long : goal.returns-clause-long
returns-clause-long c = grind (arith, common_steps)

pub returns-clause-short : goal.returns-clause-short
returns-clause-short c = grind (arith, common_steps)
