use Rattle.mintc_cells.proofs.EachTextLaws.{texts_have_cells_or_refusals_lem}
use Rattle.mintc_cells.proofs.laws.texts_have_cells_or_refusals.Goals as goal

pub returns : goal.returns
returns c = texts_have_cells_or_refusals_lem
