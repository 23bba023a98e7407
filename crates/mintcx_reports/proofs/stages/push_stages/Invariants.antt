use Rattle.std.proofs.Common.{◌≡◌, ◌++◌}
use Rattle.std.specs.Prelude.{flat_map}
use Rattle.std.specs.List.{range_with_len}
use Rattle.mintcx_reports.specs.Rows.{nth_rows}
use Rattle.mintcx_reports.proofs.stages.push_stages.Given as goal

-- the rows of the stages so far
abbrev pub invariant-loop-number : goal.invariant-loop-number
invariant-loop-number l = record {
  columns : l.table.columns ≡ l.fn.table.columns;
  rows : l.table.rows ≡ l.fn.table.rows
      ++ flat_map (nth_rows l.told.flat.now l.told.schedule.now l.told.cells.now l.told.unit l.stages l.rows) (range_with_len 0 l.number);
}
