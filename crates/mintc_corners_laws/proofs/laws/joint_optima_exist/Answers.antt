use Rattle.mintc_corners_laws.proofs.OptimumLaws.{joint_optima_exist_lem}
use Rattle.mintc_corners_laws.proofs.laws.joint_optima_exist.Goals as goal

pub returns : goal.returns
returns c = joint_optima_exist_lem
