-- Gaps in rows, one for the gaps that leave a node.
use Rattle.std.specs.Prelude.{◌≡◌, ◌<◌, ◌≤◌, ◌-◌, ◌⊎◌, ℕ, ℤ, pos, ◌+ℤ◌, ◌≤ℤ◌, List, length, slice_index_or}
use Rattle.mintc_graph_walks.specs.Walks.{value_at}
use Rattle.mintc_slack.specs.declared.reduced_costs.ReducedCost.{ReducedCost}

-- the gap at a place, counted from 0
abbrev pub gap_at : List ReducedCost → ℕ → ReducedCost
gap_at gaps place = slice_index_or gaps place (record { from = 0; rest = pos 0; to = 0 })

-- where the row of a node begins
abbrev pub row_at : List ℕ → ℕ → ℕ
row_at firsts node = slice_index_or firsts node 0

-- The one gap leaves the same node as the other, and is no greater.
abbrev pub IsSooner : ReducedCost → ReducedCost → Type 0
IsSooner g h = (g.from ≡ h.from) × (g.rest ≤ℤ h.rest)

-- The gap at a place begins its row, or the row has begun and the gap before is sooner.
abbrev pub IsNext : List ReducedCost → List ℕ → ℕ → Type 0
IsNext gaps firsts place = (row_at firsts (gap_at gaps place).from ≡ place)
    ⊎ (row_at firsts (gap_at gaps place).from < place) × IsSooner (gap_at gaps (place - 1)) (gap_at gaps place)

-- The row of the gap at a place begins there or before, and the gaps from there on are sooner.
pub record IsInRow (gaps : List ReducedCost) (firsts : List ℕ) (place : ℕ) : Type 0 where
  pub begun : row_at firsts (gap_at gaps place).from ≤ place
  pub sooner : (k : ℕ) → row_at firsts (gap_at gaps place).from ≤ k → k ≤ place → IsSooner (gap_at gaps k) (gap_at gaps place)

-- So it is at each place.
abbrev pub AreInRows : List ReducedCost → List ℕ → Type 0
AreInRows gaps firsts = (place : ℕ) → place < length gaps → IsInRow gaps firsts place

-- No gap that leaves the node makes the distance of its end less.
abbrev pub IsRowLeast : List ReducedCost → ℕ → List ℤ → Type 0
IsRowLeast gaps node distances = (place : ℕ) → place < length gaps → (gap_at gaps place).from ≡ node →
    value_at distances (gap_at gaps place).to ≤ℤ (value_at distances (gap_at gaps place).from +ℤ (gap_at gaps place).rest)
