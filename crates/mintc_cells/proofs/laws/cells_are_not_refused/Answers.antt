use Rattle.mintc_cells.proofs.DeterminedLaws.{cells_are_not_refused}
use Rattle.mintc_cells.proofs.laws.cells_are_not_refused.Goals as goal

pub returns : goal.returns
returns c = cells_are_not_refused
