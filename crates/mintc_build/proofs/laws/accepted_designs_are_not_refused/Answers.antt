use Rattle.mintc_build.proofs.RefusalLaws.{accepted_lem}
use Rattle.mintc_build.proofs.laws.accepted_designs_are_not_refused.Goals as goal

pub returns : goal.returns
returns c = accepted_lem
