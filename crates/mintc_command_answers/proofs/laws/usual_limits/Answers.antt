use Rattle.mintc_command_answers.proofs.UsualLaws.{usual_limits_lem}
use Rattle.mintc_command_answers.proofs.laws.usual_limits.Goals as goal

pub returns : goal.returns
returns c = usual_limits_lem
