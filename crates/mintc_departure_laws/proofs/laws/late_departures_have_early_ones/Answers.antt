use Rattle.mintc_departure_laws.proofs.EarlyLaws.{late_have_early_lem}
use Rattle.mintc_departure_laws.proofs.laws.late_departures_have_early_ones.Goals as goal

pub returns : goal.returns
returns c = late_have_early_lem
