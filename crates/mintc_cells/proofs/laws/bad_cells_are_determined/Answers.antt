use Rattle.mintc_cells.proofs.DeterminedLaws.{bad_cells_are_determined}
use Rattle.mintc_cells.proofs.laws.bad_cells_are_determined.Goals as goal

pub returns : goal.returns
returns c = bad_cells_are_determined
