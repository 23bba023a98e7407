use Rattle.mintc_timing.proofs.SharedDeterminedLaws.{paths_join_lem}
use Rattle.mintc_timing.proofs.laws.paths_join.Goals as goal

pub returns : goal.returns
returns c = paths_join_lem
