use Rattle.mintc_ratio_laws.proofs.SharedValuesLaws.{greatest_walks_exist_lem}
use Rattle.mintc_ratio_laws.proofs.laws.greatest_walks_exist.Goals as goal

pub returns : goal.returns
returns c = greatest_walks_exist_lem
