use Rattle.std.proofs.Common.{◌<◌, length, ap, ◌∙◌, arith}
use Rattle.toml.specs.Data.{table}
use Rattle.toml.specs.View.{table_view}
use Rattle.mintc_cells.specs.Entries.{name_at, cell_at}
use Rattle.liberty2toml_command.specs.Tables.{table_of}
use Rattle.liberty2toml_command.specs.Puts.{put_member}
use Rattle.liberty2toml_command.proofs.PrintLaws.{put-next}
use Rattle.liberty2toml_command.proofs.tables.named_tables.Goals as goal

pub loop-number-preserved : goal.loop-number-preserved
loop-number-preserved c =
    let cells = c.args.cells.now in
    let at = c.loop-number.number in
    let within : at < length cells = omega (arith, c.loop-number-test.true, c.count-number-end.ensures.count) in
    c.in_ok-put_cell.ensures
    ∙ ap (λ name. put_member name (table (table_of c.cell.result.now)) (table_view c.loop-number.named)) c.name.ensures
    ∙ ap (λ cell. put_member (name_at cells at) (table (table_of cell)) (table_view c.loop-number.named)) c.cell.ensures
    ∙ ap (put_member (name_at cells at) (table (table_of (cell_at cells at)))) c.loop-number.invariant
    ∙ put-next cells at within c.count-number-end.ensures.kept.ascending
