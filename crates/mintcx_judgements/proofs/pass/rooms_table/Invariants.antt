use Rattle.std.proofs.Common.{◌≡◌, ◌∷◌, ℕ, ℤ, map, take}
use Rattle.mintcx_judgements.specs.Passes.{element_row, room_columns, room_head}
use Rattle.mintcx_judgements.proofs.pass.rooms_table.Given as goal

-- the rows so far are in the table
abbrev pub invariant-loop-place : goal.invariant-loop-place
invariant-loop-place l = record {
  columns : l.table.columns ≡ room_columns;
  rows : l.table.rows ≡ room_head ∷
      map (λ (p : ℕ × ℤ × ℕ). element_row l.causes.told.system.now l.causes.told.schedule.now l.causes.late.now l.causes.early.now l.causes.told.unit p.2) (take l.place-index l.places);
}
