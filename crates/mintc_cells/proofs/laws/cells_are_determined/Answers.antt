use Rattle.mintc_cells.proofs.DeterminedLaws.{cells_are_determined}
use Rattle.mintc_cells.proofs.laws.cells_are_determined.Goals as goal

pub returns : goal.returns
returns c = cells_are_determined
