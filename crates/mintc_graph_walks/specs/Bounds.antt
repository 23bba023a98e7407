-- Weights and values within bounds.
use Rattle.std.specs.Prelude.{ℕ, ℤ, pos, neg_ℤ, ◌^◌, ◌≤ℤ◌, ◌<ℤ◌, ◌<◌, List, length}
use Rattle.mintc_graph_walks.specs.declared.network.Arc.{Arc}
use Rattle.mintc_graph_walks.specs.declared.network.TheConstants.{UNREACHED}
use Rattle.mintc_graph_walks.specs.Walks.{arc_at, value_at}

-- the most nodes that a network may have, and that its arcs are few: at weights from -2^80 to 2^80 a round for each
-- node keeps values from -2^125 to 2^125
abbrev pub most_nodes : ℕ
most_nodes = 32768

abbrev pub AreFew : List Arc → Type 0
AreFew arcs = length arcs < 2 ^ 28

-- x is from -b to b
abbrev pub IsWithin : ℕ → ℤ → Type 0
IsWithin b x = (neg_ℤ (pos b) ≤ℤ x) × (x ≤ℤ pos b)

-- each value is UNREACHED, or from -b to b
abbrev pub AreBounded : ℕ → List ℤ → Type 0
AreBounded b values = (v : ℕ) → v < length values →
    (UNREACHED ≤ℤ value_at values v) × (UNREACHED <ℤ value_at values v → IsWithin b (value_at values v))

-- Each arc leads from one of n nodes, counted from 0, to one of them, maybe the same. Its weight is from -2^80 to 2^80.
abbrev pub AreOrdinary : ℕ → List Arc → Type 0
AreOrdinary n arcs = (e : ℕ) → e < length arcs →
    ((arc_at arcs e).from < n) × ((arc_at arcs e).to < n) × IsWithin (2 ^ 80) (arc_at arcs e).weight
