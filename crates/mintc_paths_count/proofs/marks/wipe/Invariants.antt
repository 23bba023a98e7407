use Rattle.std.proofs.Common.{◌≡◌, ◌<◌, ◌-◌, ℕ, length}
use Rattle.mintc_paths_count.specs.declared.marks.TheConstants.{NO_MARKS}
use Rattle.mintc_paths_count.specs.Marks.{marks_at, AreMarksReached}
use Rattle.mintc_paths_count.proofs.marks.wipe.Given as goal

-- the rows so far have no marks
abbrev pub invariant-loop-first : goal.invariant-loop-first
invariant-loop-first l = record {
  marked : AreMarksReached l.marks l.reached;
  none : (row : ℕ) → row < l.first → marks_at l.marks row ≡ NO_MARKS;
  count : length l.marks ≡ length l.fn.marks;
}

abbrev pub decreases-loop-first : goal.decreases-loop-first
decreases-loop-first l = length l.marks - l.first
