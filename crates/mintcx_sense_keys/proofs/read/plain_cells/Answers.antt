use Rattle.std.proofs.Common.{subst}
use Rattle.toml.specs.Data.{Members}
use Rattle.toml.specs.View.{table_view}
use Rattle.mintc_cells.specs.CellsOf.{AreInTable, IsBadTable}
use Rattle.mintcx_sense_keys.specs.SensedCells.{ArePlainCells, IsBadPlainCell, bad_table}
use Rattle.mintcx_sense_keys.proofs.StopLaws.{carried}
use Rattle.mintcx_sense_keys.proofs.read.plain_cells.Goals as goal

pub returns : goal.returns
returns c =
    let ms = table_view c.in_ok-document.document in
    let left = table_view c.strip_document.new.document in
    carried c.cells_of_document.result (AreInTable left) (ArePlainCells c.args.text.now) (IsBadTable left) (IsBadPlainCell c.args.text.now)
    (λ cells h. record { document = ms; is_document = c.in_ok-document.ensures; read = subst (λ (m : Members). AreInTable m cells) c.strip_document.ensures h })
    (λ n rule bad. bad_table ms c.in_ok-document.ensures (subst (λ (m : Members). IsBadTable m n rule) c.strip_document.ensures bad)) c.cells_of_document.ensures
