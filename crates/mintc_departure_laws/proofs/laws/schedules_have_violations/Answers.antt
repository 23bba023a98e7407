use Rattle.mintc_departure_laws.proofs.ExistenceLaws.{schedules_have_violations_lem}
use Rattle.mintc_departure_laws.proofs.laws.schedules_have_violations.Goals as goal

pub returns : goal.returns
returns c = schedules_have_violations_lem
