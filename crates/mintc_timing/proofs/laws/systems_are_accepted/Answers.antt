use Rattle.mintc_timing.proofs.AcceptedLaws.{systems_are_accepted_lem}
use Rattle.mintc_timing.proofs.laws.systems_are_accepted.Goals as goal

pub returns : goal.returns
returns c = systems_are_accepted_lem
