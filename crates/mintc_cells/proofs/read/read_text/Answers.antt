use Rattle.toml.specs.View.{table_view}
use Rattle.mintc_cells.specs.CellsOf.{AreInTable, IsBadTable, AreCells, IsBadCell, bad_table}
use Rattle.mintc_cells.proofs.EntriesLaws.{carried}
use Rattle.mintc_cells.proofs.read.read_text.Goals as goal

pub returns-in-Ok-clause-value : goal.returns-in-Ok-clause-value
returns-in-Ok-clause-value c =
    let ms = table_view c.in-Ok.document in
    carried c.read_document.result (λ v. AreInTable ms v.items) (λ v. AreCells c.args.text.now v.items) (IsBadTable ms) (IsBadCell c.args.text.now)
    (λ v h. (ms, c.in-Ok.ensures.ok, h)) (λ n rule bad. bad_table ms c.in-Ok.ensures.ok bad) c.read_document.ensures.value
