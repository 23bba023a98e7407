use Rattle.mintc_command_answers.proofs.OptimaLaws.{joint_optima_lem}
use Rattle.mintc_command_answers.proofs.laws.joint_optima_are_determined.Goals as goal

pub returns : goal.returns
returns c = joint_optima_lem c.beside_is_both.ensures c.corners_are_modest.ensures
