use Rattle.mintc_timing.proofs.SharedDeterminedLaws.{early_are_determined_lem}
use Rattle.mintc_timing.proofs.laws.early_are_determined.Goals as goal

pub returns : goal.returns
returns c = early_are_determined_lem
