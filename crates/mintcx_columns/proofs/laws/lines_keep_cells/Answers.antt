use Rattle.mintcx_columns.proofs.LineLaws.{lines_keep_cells_lem}
use Rattle.mintcx_columns.proofs.laws.lines_keep_cells.Goals as goal

pub returns : goal.returns
returns c = lines_keep_cells_lem
