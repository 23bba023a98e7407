use Rattle.mintc_existence.proofs.CornerLaws.{corners_are_answered_lem}
use Rattle.mintc_existence.proofs.laws.corners_are_answered.Goals as goal

pub returns : goal.returns
returns c = corners_are_answered_lem c.corners_differ_in_numbers.ensures c.joint_optima_exist.ensures
