use Rattle.mintcx_sense_keys.proofs.DeterminedLaws.{plain_cells_are_determined_lem}
use Rattle.mintcx_sense_keys.proofs.laws.plain_cells_are_determined.Goals as goal

pub returns : goal.returns
returns c = plain_cells_are_determined_lem
