use Rattle.mintc_cells.proofs.DeterminedLaws.{cells_keep_rules}
use Rattle.mintc_cells.proofs.laws.cells_keep_rules.Goals as goal

pub returns : goal.returns
returns c = cells_keep_rules
