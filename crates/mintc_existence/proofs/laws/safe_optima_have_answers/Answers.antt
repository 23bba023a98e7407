use Rattle.mintc_existence.proofs.OptimumLaws.{safe_optima_have_answers_lem}
use Rattle.mintc_existence.proofs.laws.safe_optima_have_answers.Goals as goal

pub returns : goal.returns
returns c = safe_optima_have_answers_lem c.safe_optima_exist.ensures
