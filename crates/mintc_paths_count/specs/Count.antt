-- How many pairs a design has.
use Rattle.std.specs.Prelude.{◌≡◌, ◌≢◌, ◌<◌, ◌≤◌, ◌+◌, ◌*◌, ℕ, List, length}
use Rattle.mintc_text.specs.declared.limits.TheConstants.{MOST_ELEMENTS}
use Rattle.mintc_timing.specs.declared.parts.Pair.{Pair}
use Rattle.mintc_timing.specs.Design.{Design}
use Rattle.mintc_timing.specs.Paths.{IsPath, ArePairs, HasExtremes, input_of}
use Rattle.mintc_paths_count.specs.declared.marks.Marks.{Marks}
use Rattle.mintc_paths.specs.Found.{ArePairsBefore, end_at}
use Rattle.mintc_paths_count.specs.Marks.{mark_in, marks_at}

-- The design has so many pairs.
pub record IsPairCount (design : Design) (count : ℕ) : Type 0 where
  pub pairs : List Pair
  pub are_pairs : ArePairs design pairs
  pub is_count : length pairs ≡ count

-- The design has so many pairs before elements `from` and `to`.
pub record IsCountBefore (design : Design) (from to count : ℕ) : Type 0 where
  pub pairs : List Pair
  pub are_pairs : ArePairsBefore design from to pairs
  pub is_count : length pairs ≡ count
  pub few : count ≤ MOST_ELEMENTS * from + to

-- The mark is set exactly where the design has a pair of elements `from` and `to`.
pub record IsPairMark (design : Design) (from to mark : ℕ) : Type 0 where
  pub sound : mark ≡ 1 → (pair : Pair) × HasExtremes design pair × (pair.from ≡ from) × (pair.to ≡ to)
  pub whole : (path : List ℕ) → IsPath design.arcs from path (input_of to) → mark ≡ 1

-- The marks at the inputs are those of the pairs from an element, in this lane.
abbrev pub AreEndsOf : Design → ℕ → ℕ → List Marks → Type 0
AreEndsOf design from lane ends = (to : ℕ) → to < length design.elements →
    IsPairMark design from to (mark_in (marks_at ends to) lane)

-- The list of elements below n ascends, and each element below n that isn't listed is none of those that are looked
-- for.
pub record AreListed (IsNone : ℕ → Type 0) (n : ℕ) (listed : List ℕ) : Type 0 where
  pub ascending : (i k : ℕ) → i < k → k < length listed → end_at listed i < end_at listed k
  pub inside : (i : ℕ) → i < length listed → end_at listed i < n
  pub others : (to : ℕ) → to < n → ((i : ℕ) → i < length listed → end_at listed i ≢ to) → IsNone to
