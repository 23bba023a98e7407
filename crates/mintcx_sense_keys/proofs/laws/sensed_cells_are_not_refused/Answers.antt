use Rattle.mintcx_sense_keys.proofs.DeterminedLaws.{sensed_cells_are_not_refused_lem}
use Rattle.mintcx_sense_keys.proofs.laws.sensed_cells_are_not_refused.Goals as goal

pub returns : goal.returns
returns c = sensed_cells_are_not_refused_lem
