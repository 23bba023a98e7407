-- what going back along the arcs by which nodes were raised last finds
use Rattle.std.specs.Prelude.{◌≡◌, ◌≢◌, ℕ, zero, suc, ◌+◌, ◌<◌, ◌≤◌, List, [], ◌∷◌, length, slice_index, AllPairs}
use Rattle.mintc_graph_walks.specs.declared.network.Arc.{Arc}
use Rattle.mintc_graph_walks.specs.declared.network.TheConstants.{NONE}
use Rattle.mintc_graph_walks.specs.Walks.{arc_at, Leads}

-- the node from which v was raised last
abbrev pub parent : List Arc → List ℕ → ℕ → ℕ
parent arcs before v = (arc_at arcs (slice_index before v)).from

-- each node that was raised has an arc that leads to it from a node
abbrev pub AreParents : List Arc → List ℕ → Type 0
AreParents arcs before = (v : ℕ) → v < length before → slice_index before v ≢ NONE →
    (slice_index before v < length arcs) × ((arc_at arcs (slice_index before v)).to ≡ v) ×
    (parent arcs before v < length before)

-- j steps back from v lead to x
abbrev pub Back : List Arc → List ℕ → ℕ → ℕ → ℕ → Type 0
Back arcs before zero v x = v ≡ x
Back arcs before (suc j) v x = (y : ℕ) × Back arcs before j v y × (y < length before) ×
    (slice_index before y ≢ NONE) × (parent arcs before y ≡ x)

-- fewer steps back than there are nodes lead from v to a node that was never raised
abbrev pub IsRooted : List Arc → List ℕ → ℕ → Type 0
IsRooted arcs before v = (j : ℕ) × (x : ℕ) × (j < length before) × Back arcs before j v x ×
    (x < length before) × (slice_index before x ≡ NONE)

-- steps back from the node go through nodes whose marks rise by one, and after len of them to the node again
pub record IsRing (arcs : List Arc) (before marks : List ℕ) (node len : ℕ) : Type 0 where
  pub inside : node < length before
  pub some : 0 < len
  pub fits : len ≤ length before
  pub raised : (v : ℕ) → v < length before → slice_index marks node ≤ slice_index marks v → slice_index before v ≢ NONE
  pub next : (v : ℕ) → v < length before → slice_index marks node ≤ slice_index marks v →
      slice_index marks v + 1 < slice_index marks node + len →
      slice_index marks (parent arcs before v) ≡ slice_index marks v + 1
  pub closes : (v : ℕ) → v < length before → slice_index marks node ≤ slice_index marks v →
      slice_index marks v + 1 ≡ slice_index marks node + len → parent arcs before v ≡ node

-- each of these arcs raised its end last
abbrev pub AreLast : List Arc → List ℕ → List ℕ → Type 0
AreLast arcs before [] = Unit {0}
AreLast arcs before (e ∷ es) =
    ((arc_at arcs e).to < length before) × (slice_index before (arc_at arcs e).to ≡ e) × AreLast arcs before es

-- these arcs are a closed chain from the node, meet no node twice, and each raised its end last
pub record IsLoop (arcs : List Arc) (before : List ℕ) (node : ℕ) (es : List ℕ) : Type 0 where
  pub some : 0 < length es
  pub inside : node < length before
  pub closed : Leads arcs node es node
  pub apart : AllPairs (λ a b. (arc_at arcs a).to ≢ (arc_at arcs b).to) es
  pub last : AreLast arcs before es
