use Rattle.mintc_existence.proofs.CommandLaws.{jobs_are_answered_lem}
use Rattle.mintc_existence.proofs.laws.jobs_are_answered.Goals as goal

pub returns : goal.returns
returns c = jobs_are_answered_lem
