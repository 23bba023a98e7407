-- Edges, and what each bit and each element is at one of them.
use Rattle.std.specs.Prelude.{ℕ, ◌+◌, ◌*◌, Bool, true, false, ◌&&◌, ◌||◌, List, [], ◌∷◌, ◌++◌, map, filter, flat_map}
use Rattle.std.specs.Prelude.{codes}
use Rattle.mintc_senses_expressions.specs.declared.transitions.Transitions.{Transitions}
use Rattle.mintc_senses_expressions.specs.Transitions.{has}
use Rattle.mintc_sdf_edges.specs.declared.delays.Edges.{Edges}
use Rattle.mintc_edges.specs.declared.edge.Edge.{Edge}
use Rattle.mintc_edges.specs.declared.edge.Edge.TheVariants.{Rise, Fall}
use Rattle.mintc_edges.specs.declared.edge.Transition.{Transition}

-- both edges, in their order
abbrev pub both_edges : List Edge
both_edges = Rise ∷ Fall ∷ []

-- what is made of each of the two edges
abbrev pub each_edge : {A : Type 0} → (Edge → A) → List A
each_edge f = map f both_edges

-- the number of an edge among the two
abbrev pub edge_number : Edge → ℕ
edge_number Rise = 0
edge_number Fall = 1

-- the number of an element or of an inner bit at an edge, where each stands twice
abbrev pub at_edge : ℕ → Edge → ℕ
at_edge n e = 2 * n + edge_number e

-- the letter of an edge behind a name
abbrev pub edge_mark : Edge → List ℕ
edge_mark Rise = codes "/r"
edge_mark Fall = codes "/f"

-- what an element or a bit of a name is called at an edge
abbrev pub edge_name : List ℕ → Edge → List ℕ
edge_name name e = name ++ edge_mark e

-- ---- sets of edges

-- whether an edge is a rise
abbrev pub is_rise : Edge → Bool
is_rise Rise = true
is_rise Fall = false

-- one edge alone
abbrev pub only : Edge → Edges
only Rise = record { rise = true; fall = false }
only Fall = record { rise = false; fall = true }

-- any edge
abbrev pub any : Edges
any = record { rise = true; fall = true }

-- whether two sets of edges have one in common
abbrev pub share : Edges → Edges → Bool
share xs ys = (xs.rise && ys.rise) || (xs.fall && ys.fall)

-- ---- transitions, each from an edge to an edge

-- a transition by its two edges
abbrev pub transition : Edge → Edge → Transition
transition i o = record { from = i; to = o }

-- the edges that an edge may make
abbrev pub ends_of : Transitions → Edge → List Edge
ends_of t i = filter (λ o. has t (is_rise i) (is_rise o)) both_edges

-- the transitions of a set in their order: by the first edge, and then by the second one
abbrev pub transitions_of : Transitions → List Transition
transitions_of t = flat_map (λ i. map (transition i) (ends_of t i)) both_edges

-- the transitions of a wire: each edge makes its own kind
abbrev pub wire_transitions : List Transition
wire_transitions = each_edge (λ e. transition e e)
