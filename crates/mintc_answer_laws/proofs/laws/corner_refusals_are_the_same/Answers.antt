use Rattle.mintc_answer_laws.proofs.CornerLaws.{corner_refusals_lem}
use Rattle.mintc_answer_laws.proofs.laws.corner_refusals_are_the_same.Goals as goal

pub returns : goal.returns
returns c = corner_refusals_lem c.refusals_are_determined.ensures
