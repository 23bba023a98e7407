use Rattle.std.proofs.Common.{◌≡◌, ◌∷◌, ℕ, ℤ, map, take}
use Rattle.mintcx_reports.specs.Borrowers.{borrow_cells, borrow_columns, borrow_head}
use Rattle.mintcx_reports.proofs.borrowers.borrow_table.Given as goal

-- the rows of the latches so far
abbrev pub invariant-loop-place : goal.invariant-loop-place
invariant-loop-place l = record {
  columns : l.table.columns ≡ borrow_columns;
  rows : l.table.rows ≡ borrow_head ∷ map (λ (place : ℤ × ℕ). borrow_cells l.told.flat.now l.told.schedule.now l.departures l.told.unit place.1) (take l.place-index l.places);
}
