use Rattle.mintc_departure.proofs.SharedPassLaws.{pass_means_right_lem}
use Rattle.mintc_departure.proofs.laws.a_pass_means_right.Goals as goal

pub returns : goal.returns
returns c = pass_means_right_lem
