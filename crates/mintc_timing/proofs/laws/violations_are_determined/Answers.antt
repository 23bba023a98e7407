use Rattle.mintc_timing.proofs.SharedAmountLaws.{violations_are_determined_lem}
use Rattle.mintc_timing.proofs.laws.violations_are_determined.Goals as goal

pub returns : goal.returns
returns c = violations_are_determined_lem
