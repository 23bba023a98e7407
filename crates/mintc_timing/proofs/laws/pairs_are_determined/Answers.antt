use Rattle.mintc_timing.proofs.PairLaws.{pairs_are_determined_lem}
use Rattle.mintc_timing.proofs.laws.pairs_are_determined.Goals as goal

pub returns : goal.returns
returns c = pairs_are_determined_lem
