-- Walks over the arcs of a network.
use Rattle.std.specs.Prelude.{ℕ, ℤ, pos, ◌+ℤ◌, ◌<ℤ◌, ◌<◌, List, [], ◌∷◌, length, slice_index_or}
use Rattle.mintc_graph.specs.Rings.{LeadsBy}
use Rattle.mintc_graph_walks.specs.declared.network.Arc.{Arc}
use Rattle.mintc_graph_walks.specs.declared.network.TheConstants.{UNREACHED}

-- an arc of weight 0 from node 0 to itself, which stands for those past the end of a list
abbrev pub no_arc : Arc
no_arc = record { from = 0; to = 0; weight = pos 0 }

-- the arc of this number, counted from 0
abbrev pub arc_at : List Arc → ℕ → Arc
arc_at arcs e = slice_index_or arcs e no_arc

-- The value of a node, counted from 0. Values and weights are whole numbers without a unit.
abbrev pub value_at : List ℤ → ℕ → ℤ
value_at values v = slice_index_or values v (pos 0)

-- Before a call the values are the starts. A walk may begin at a node whose start isn't UNREACHED, with that value.
abbrev pub IsStart : List ℤ → ℕ → Type 0
IsStart starts v = (v < length starts) × (UNREACHED <ℤ value_at starts v)

-- A walk is a list of arc numbers, each arc beginning where the one before ends. This one leads from u to v.
abbrev pub Leads : List Arc → ℕ → List ℕ → ℕ → Type 0
Leads arcs = LeadsBy (λ (a : Arc). a.from) (λ (a : Arc). a.to) no_arc arcs

-- the weight of a walk: the sum of its arcs' weights
abbrev pub weight_of : List Arc → List ℕ → ℤ
weight_of arcs [] = pos 0
weight_of arcs (e ∷ es) = (arc_at arcs e).weight +ℤ weight_of arcs es

-- some walk leads from a start to v
abbrev pub EndsWalk : List Arc → List ℤ → ℕ → Type 0
EndsWalk arcs starts v = (u : ℕ) × (es : List ℕ) × IsStart starts u × Leads arcs u es v

-- Node v has a value. A node is unreached where its value is UNREACHED: in an answer, where no walk leads to it.
abbrev pub IsReached : List ℤ → ℕ → Type 0
IsReached values v = UNREACHED <ℤ value_at values v

-- what an arc brings to its end: the value of the node where it begins, and its weight
abbrev pub brought : List ℤ → Arc → ℤ
brought values a = value_at values a.from +ℤ a.weight
