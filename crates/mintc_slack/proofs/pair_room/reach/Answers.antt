use Rattle.std.proofs.Common.{arith}
use Rattle.std.proofs.lemmas.Grind.{common_steps}
use Rattle.mintc_slack.proofs.pair_room.reach.Goals as goal

pub returns-clause-from : goal.returns-clause-from
returns-clause-from c = grind (arith, common_steps)
