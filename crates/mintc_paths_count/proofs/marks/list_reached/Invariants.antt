use Rattle.std.proofs.Common.{◌≡◌, List}
use Rattle.mintc_timing.specs.Paths.{input_of}
use Rattle.mintc_paths_sums.specs.Placed.{row_of}
use Rattle.mintc_paths_count.specs.declared.marks.Marks.{Marks}
use Rattle.mintc_paths_count.specs.declared.marks.TheConstants.{NO_MARKS}
use Rattle.mintc_paths_count.specs.Count.{AreListed}
use Rattle.mintc_paths_count.specs.Marks.{marks_at, AreMarksReached}
use Rattle.mintc_paths_count.proofs.marks.list_reached.Given as goal

-- those among the elements so far are listed
abbrev pub invariant-loop-to : goal.invariant-loop-to
invariant-loop-to l = (marks : List Marks) → AreMarksReached marks l.reached →
    AreListed (λ to. marks_at marks (row_of l.rows.of_bits.items (input_of to)) ≡ NO_MARKS) l.to l.listed.items
