use Rattle.mintc_departure_laws.proofs.LateLaws.{have_late_or_loop_lem}
use Rattle.mintc_departure_laws.proofs.laws.schedules_have_late_departures_or_loops.Goals as goal

pub returns : goal.returns
returns c = have_late_or_loop_lem
