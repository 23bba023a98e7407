use Rattle.mintc_existence.proofs.CommandLaws.{samples_are_answered_lem}
use Rattle.mintc_existence.proofs.laws.samples_are_answered.Goals as goal

pub returns : goal.returns
returns c = samples_are_answered_lem c.systems_have_summaries.ensures
