use Rattle.mintc_liberty.proofs.EitherLaws.{have_cells_or_fault}
use Rattle.mintc_liberty.proofs.laws.texts_have_cells_or_faults.Goals as goal

pub returns : goal.returns
returns c = have_cells_or_fault
