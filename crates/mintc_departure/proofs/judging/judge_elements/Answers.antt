use Rattle.std.proofs.Common.{arith}
use Rattle.std.proofs.lemmas.Grind.{common_steps}
use Rattle.mintc_departure.proofs.judging.judge_elements.Goals as goal

pub returns-clause-violations : goal.returns-clause-violations
returns-clause-violations c = grind (arith, common_steps)
