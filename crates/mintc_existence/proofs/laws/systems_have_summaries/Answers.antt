use Rattle.mintc_existence.proofs.OptimumLaws.{systems_have_summaries_lem}
use Rattle.mintc_existence.proofs.laws.systems_have_summaries.Goals as goal

pub returns : goal.returns
returns c = systems_have_summaries_lem c.optima_exist.ensures
