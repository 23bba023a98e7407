use Rattle.mintc_existence.proofs.OptimumLaws.{optima_have_answers_lem}
use Rattle.mintc_existence.proofs.laws.optima_have_answers.Goals as goal

pub returns : goal.returns
returns c = optima_have_answers_lem c.optima_exist.ensures c.slacks_exist.ensures
