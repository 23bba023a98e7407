use Rattle.mintc_ratio_laws.proofs.SharedOutcomeLaws.{searches_end_lem}
use Rattle.mintc_ratio_laws.proofs.laws.searches_end.Goals as goal

pub returns : goal.returns
returns c = searches_end_lem
