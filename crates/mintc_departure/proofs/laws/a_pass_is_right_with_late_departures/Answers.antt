use Rattle.mintc_departure.proofs.SharedPassLaws.{pass_is_right_with_late_lem}
use Rattle.mintc_departure.proofs.laws.a_pass_is_right_with_late_departures.Goals as goal

pub returns : goal.returns
returns c = pass_is_right_with_late_lem
