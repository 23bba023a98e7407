use Rattle.mintc_optimise_laws.proofs.SharedOptimumLaws.{optima_exist_lem}
use Rattle.mintc_optimise_laws.proofs.laws.optima_exist.Goals as goal

pub returns : goal.returns
returns c = optima_exist_lem
