use Rattle.mintcx_sense_keys.proofs.DeterminedLaws.{bad_sensed_cells_are_determined_lem}
use Rattle.mintcx_sense_keys.proofs.laws.bad_sensed_cells_are_determined.Goals as goal

pub returns : goal.returns
returns c = bad_sensed_cells_are_determined_lem
