use Rattle.std.proofs.Common.{◌≡◌, ◌∷◌, map}
use Rattle.std.specs.List.{range_with_len}
use Rattle.mintcx_slacks.specs.Histograms.{bar_columns, bar_head, bar_row, fullest_of}
use Rattle.mintcx_slacks.proofs.histogram.rows_table.Given as goal

-- the rows of the bars so far
abbrev pub invariant-loop-number : goal.invariant-loop-number
invariant-loop-number l = record {
  columns : l.table.columns ≡ bar_columns;
  rows : l.table.rows ≡ bar_head ∷ map (bar_row l.unit l.step.femtoseconds l.extra (fullest_of l.step.femtoseconds l.extra)) (range_with_len 0 l.number);
}
