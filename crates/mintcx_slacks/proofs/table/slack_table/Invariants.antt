use Rattle.std.proofs.Common.{◌≡◌, ◌∷◌, map, take}
use Rattle.mintcx_slacks.specs.Slacks.{slack_columns, slack_head, slack_row}
use Rattle.mintcx_slacks.proofs.table.slack_table.Given as goal

-- the rows so far are in the table
abbrev pub invariant-loop-place : goal.invariant-loop-place
invariant-loop-place l = record {
  columns : l.table.columns ≡ slack_columns;
  rows : l.table.rows ≡ slack_head ∷ map (slack_row l.system l.unit) (take l.place-index l.places);
}
