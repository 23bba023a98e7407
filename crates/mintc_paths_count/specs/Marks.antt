-- Marks at bits: whether a path leads there from each of up to 128 elements.
use Rattle.std.specs.Prelude.{◌≡◌, ◌<◌, ◌≤◌, ◌+◌, ◌/◌, ◌%◌, ℕ, List, [], length, slice_index_or, Bool, false}
use Rattle.std.specs.Int.{bit_at}
use Rattle.mintc_timing.specs.declared.parts.TimingArc.{TimingArc}
use Rattle.mintc_timing.specs.Paths.{Leads, output_of}
use Rattle.mintc_timing.specs.Among.{AreAmong}
use Rattle.mintc_paths_sums.specs.Placed.{row_of}
use Rattle.mintc_paths_count.specs.declared.marks.Marks.{Marks}
use Rattle.mintc_paths_count.specs.declared.marks.TheConstants.{NO_MARKS}

-- what stands for the marks in a row past the end
abbrev pub no_marks : Marks
no_marks = record { words = [] }

-- the marks in a row
abbrev pub marks_at : List Marks → ℕ → Marks
marks_at marks row = slice_index_or marks row no_marks

-- the mark of a lane, 1 where it is set
abbrev pub mark_in : Marks → ℕ → ℕ
mark_in marks lane = bit_at (slice_index_or marks.words (lane / 64) 0) (lane % 64)

-- The mark is set exactly where this holds.
pub record IsMarkOf (holds : Type 0) (mark : ℕ) : Type 0 where
  pub sound : mark ≡ 1 → holds
  pub whole : holds → mark ≡ 1

-- Some path along the first k arcs of the order leads from one bit to another. The empty path leads from a bit to
-- itself.
abbrev pub IsReachedAlong : List TimingArc → List ℕ → ℕ → ℕ → ℕ → Type 0
IsReachedAlong arcs order k from to = (path : List ℕ) × AreAmong order k path × Leads arcs from path to

-- Lane i of each of n bits is set exactly where a path along the first k arcs of the order leads there from element
-- first + i.
abbrev pub AreMarksAlong : ℕ → List TimingArc → List ℕ → ℕ → List ℕ → ℕ → ℕ → List Marks → Type 0
AreMarksAlong n arcs order k rows first lanes marks = (bit lane : ℕ) → bit < n → lane < lanes →
    IsMarkOf (IsReachedAlong arcs order k (output_of (first + lane)) bit)
    (mark_in (marks_at marks (row_of rows bit)) lane)

-- Lane i is set at the output of element first + i and at no other of n bits, and the lanes from this one on at none.
pub record AreMarksBegun (n : ℕ) (rows : List ℕ) (first lanes : ℕ) (marks : List Marks) : Type 0 where
  pub begun : (bit lane : ℕ) → bit < n → lane < lanes →
      IsMarkOf (bit ≡ output_of (first + lane)) (mark_in (marks_at marks (row_of rows bit)) lane)
  pub absent : (bit lane : ℕ) → bit < n → lanes ≤ lane → lane < 128 →
      mark_in (marks_at marks (row_of rows bit)) lane ≡ 0

-- There is a place for each row, and a row that isn't marked as reached has no marks.
pub record AreMarksReached (marks : List Marks) (reached : List Bool) : Type 0 where
  pub count : length reached ≡ length marks
  pub none : (row : ℕ) → row < length marks → slice_index_or reached row false ≡ false → marks_at marks row ≡ NO_MARKS
