use Rattle.std.proofs.Common.{◌≡◌, ◌<◌, ◌≤◌, ◌⊎◌, ℕ, length}
use Rattle.mintc_paths_count.specs.declared.marks.TheConstants.{NO_MARKS}
use Rattle.mintc_paths_count.specs.Marks.{marks_at}
use Rattle.mintc_paths_count.proofs.marks.wipe_rows.Given as goal

-- the rows so far have no marks, and the others are as they were
abbrev pub invariant-loop-row : goal.invariant-loop-row
invariant-loop-row l = record {
  none : (row : ℕ) → l.first ≤ row → row < l.row → marks_at l.marks row ≡ NO_MARKS;
  others : (row : ℕ) → (row < l.first) ⊎ (l.row ≤ row) → marks_at l.marks row ≡ marks_at l.fn.marks row;
  count : length l.marks ≡ length l.fn.marks;
}
