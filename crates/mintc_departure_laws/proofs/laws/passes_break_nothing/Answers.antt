use Rattle.mintc_departure_laws.proofs.ExistenceLaws.{passes_break_nothing_lem}
use Rattle.mintc_departure_laws.proofs.laws.passes_break_nothing.Goals as goal

pub returns : goal.returns
returns c = passes_break_nothing_lem
