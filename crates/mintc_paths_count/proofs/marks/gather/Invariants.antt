use Rattle.std.proofs.Common.{◌≡◌, ◌<◌, ℕ}
use Rattle.mintc_timing.specs.Paths.{input_of}
use Rattle.mintc_paths_sums.specs.Placed.{row_of}
use Rattle.mintc_paths_count.specs.Marks.{marks_at}
use Rattle.mintc_paths_count.proofs.marks.gather.Given as goal

-- the inputs so far are gathered
abbrev pub invariant-loop-to : goal.invariant-loop-to
invariant-loop-to l = (k : ℕ) → k < l.to → marks_at l.ends k ≡ marks_at l.marks (row_of l.rows.of_bits.items (input_of k))
