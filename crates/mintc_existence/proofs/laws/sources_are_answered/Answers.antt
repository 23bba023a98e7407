use Rattle.mintc_existence.proofs.CommandLaws.{sources_are_answered_lem}
use Rattle.mintc_existence.proofs.laws.sources_are_answered.Goals as goal

pub returns : goal.returns
returns c = sources_are_answered_lem c.checks_have_answers.ensures c.verifications_have_answers.ensures c.optima_have_answers.ensures c.safe_optima_have_answers.ensures
