use Rattle.std.proofs.Common.{sym}
use Rattle.toml.specs.View.{view, table_view}
use Rattle.mintcx_sense_keys.proofs.EntryLaws.{as_many}
use Rattle.mintcx_sense_keys.proofs.read.senses_in.Goals as goal

pub with_cells-requires : goal.with_cells-requires
with_cells-requires c =
    as_many (table_view c.args.document.now) (table_view c.in-Some-as_table.table.now) (view c.in-Some.value.now) c.args.cells.now c.requires c.in-Some.ensures (sym c.in-Some-as_table.ensures)
