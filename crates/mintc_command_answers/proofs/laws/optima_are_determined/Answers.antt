use Rattle.mintc_command_answers.proofs.OptimaLaws.{optima_lem}
use Rattle.mintc_command_answers.proofs.laws.optima_are_determined.Goals as goal

pub returns : goal.returns
returns c = optima_lem
