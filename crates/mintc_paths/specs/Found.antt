-- Pairs as they are found.
use Rattle.std.specs.Prelude.{◌≡◌, ◌≢◌, ◌<◌, ◌≤◌, ◌+◌, ◌*◌, ◌⊎◌, ℕ, List, length, slice_index_or, All, Contains}
use Rattle.std.specs.List.{AllAdjacentBelow}
use Rattle.mintc_text.specs.declared.limits.TheConstants.{MOST_ELEMENTS}
use Rattle.mintc_timing.specs.declared.parts.Pair.{Pair}
use Rattle.mintc_timing.specs.Design.{Design}
use Rattle.mintc_timing.specs.Paths.{IsPath, input_of, HasExtremes, ComesBefore}
use Rattle.mintc_paths_sums.specs.declared.sums.Sums.{Sums}
use Rattle.mintc_paths_sums.specs.declared.sums.TheConstants.{NO_SUMS}
use Rattle.mintc_paths_sums.specs.Sums.{sums_at}
use Rattle.mintc_paths_sums.specs.Placed.{row_of}
use Rattle.mintc_paths.specs.declared.found.Found.{Found}

-- elements a and b come before elements `from` and `to`
abbrev pub Precede : ℕ → ℕ → ℕ → ℕ → Type 0
Precede from to a b = (a < from) ⊎ ((a ≡ from) × (b < to))

-- The list has each pair of the design before elements `from` and `to` once, in order, with its extremes.
pub record ArePairsBefore (design : Design) (from to : ℕ) (pairs : List Pair) : Type 0 where
  pub each : All (HasExtremes design) pairs
  pub ascending : AllAdjacentBelow ComesBefore pairs (length pairs)
  pub earlier : All (λ (p : Pair). Precede from to p.from p.to) pairs
  pub whole : (j l : ℕ) (path : List ℕ) → Precede from to j l → l < length design.elements →
      IsPath design.arcs j path (input_of l) → (pair : Pair) × Contains pairs pair × (pair.from ≡ j) × (pair.to ≡ l)

-- the most pairs that a design may have: each element with each
abbrev pub most_count : ℕ
most_count = MOST_ELEMENTS * MOST_ELEMENTS

-- What is found has these pairs, or the number of them alone where they are more than are kept.
pub record HasPairs (found : Found) (pairs : List Pair) : Type 0 where
  pub count : found.count ≡ length pairs
  pub kept : length pairs ≤ found.most → found.pairs.items ≡ pairs

-- What is found are the pairs before elements `from` and `to`.
pub record IsFoundBefore (design : Design) (from to : ℕ) (found : Found) : Type 0 where
  pub pairs : List Pair
  pub are_pairs : ArePairsBefore design from to pairs
  pub has_pairs : HasPairs found pairs
  pub few : length pairs ≤ MOST_ELEMENTS * from + to

-- the element whose input is the end of this number
abbrev pub end_at : List ℕ → ℕ → ℕ
end_at ends number = slice_index_or ends number 0

-- The list of elements below n ascends, and where an element below n isn't listed, there are no sums at its input.
pub record AreEnds (rows : List ℕ) (sums : List Sums) (n : ℕ) (ends : List ℕ) : Type 0 where
  pub ascending : (i k : ℕ) → i < k → k < length ends → end_at ends i < end_at ends k
  pub inside : (i : ℕ) → i < length ends → end_at ends i < n
  pub others : (to : ℕ) → to < n → ((i : ℕ) → i < length ends → end_at ends i ≢ to) →
      sums_at sums (row_of rows (input_of to)) ≡ NO_SUMS
