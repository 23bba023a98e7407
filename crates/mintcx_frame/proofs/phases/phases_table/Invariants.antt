use Rattle.std.proofs.Common.{◌≡◌, ◌∷◌, map}
use Rattle.std.specs.List.{range_with_len}
use Rattle.mintcx_frame.specs.Phases.{phase_columns, phase_head, phase_row}
use Rattle.mintcx_frame.proofs.phases.phases_table.Given as goal

-- the rows of the phases so far
abbrev pub invariant-loop-at : goal.invariant-loop-at
invariant-loop-at l = record {
  columns : l.table.columns ≡ phase_columns;
  rows : l.table.rows ≡ phase_head ∷ map (phase_row l.flat l.schedule l.unit) (range_with_len 1 l.at);
}
