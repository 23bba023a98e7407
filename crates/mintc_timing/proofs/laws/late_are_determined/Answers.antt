use Rattle.mintc_timing.proofs.SharedDeterminedLaws.{late_are_determined_lem}
use Rattle.mintc_timing.proofs.laws.late_are_determined.Goals as goal

pub returns : goal.returns
returns c = late_are_determined_lem
