-- The greatest walks to each node, or a closed chain of positive weight as the witness that there are none: with the
-- signs turned, shortest paths or a negative cycle (L. R. Ford, "Network flow theory", 1956; R. Bellman, "On a routing
-- problem", 1958). Nothing here speaks of how they are found.
use Rattle.std.specs.Prelude.{◌≡◌, ◌≢◌, ◌⊎◌, ℕ, ℤ, pos, ◌+◌, ◌*◌, ◌+ℤ◌, ◌≤ℤ◌, ◌<ℤ◌, ◌<◌, ◌≤◌, List, length, take}
use Rattle.std.specs.Prelude.{AllPairs}
use Rattle.mintc_graph_walks.specs.declared.network.Arc.{Arc}
use Rattle.mintc_graph_walks.specs.declared.network.TheConstants.{UNREACHED}
use Rattle.mintc_graph_walks.specs.declared.walks.Answer.{Answer}
use Rattle.mintc_graph_walks.specs.declared.walks.Answer.TheVariants.{Values, Chain}
use Rattle.mintc_graph_walks.specs.Bounds.{IsWithin, AreBounded}
use Rattle.mintc_graph_walks.specs.Walks.{arc_at, value_at, brought, IsStart, IsReached, Leads, EndsWalk, weight_of}

-- some walk to v has the value x, which is its start's value and its weight, and none has a greater one
pub record IsGreatest (arcs : List Arc) (starts : List ℤ) (v : ℕ) (x : ℤ) : Type 0 where
  pub attained : (u : ℕ) × (es : List ℕ) × IsStart starts u × Leads arcs u es v ×
      (value_at starts u +ℤ weight_of arcs es ≡ x)
  pub none_greater : (u : ℕ) (es : List ℕ) → IsStart starts u → Leads arcs u es v →
      (value_at starts u +ℤ weight_of arcs es) ≤ℤ x

-- some arc from a reached node brings v its value
abbrev pub IsBrought : List Arc → List ℤ → ℕ → Type 0
IsBrought arcs values v = (e : ℕ) × (e < length arcs) × ((arc_at arcs e).to ≡ v) ×
    IsReached values (arc_at arcs e).from × (value_at values v ≡ brought values (arc_at arcs e))

-- v has the value with which a walk begins there, or one that some arc brings
abbrev pub IsTight : List Arc → List ℤ → List ℤ → ℕ → Type 0
IsTight arcs starts values v =
    (IsStart starts v × (value_at values v ≡ value_at starts v)) ⊎ IsBrought arcs values v

-- numbers x of the nodes, each arc's end having at least the number of its beginning and its weight
abbrev pub Meets : List Arc → (ℕ → ℤ) → Type 0
Meets arcs x = (e : ℕ) → e < length arcs →
    (x (arc_at arcs e).from +ℤ (arc_at arcs e).weight) ≤ℤ x (arc_at arcs e).to

-- what `Values` says: the values are those of the greatest walks
pub record HasGreatest (arcs : List Arc) (starts values : List ℤ) : Type 0 where
  pub greatest : (v : ℕ) → v < length starts → IsReached values v →
      IsGreatest arcs starts v (value_at values v)
  -- each node to which a walk leads is reached, and any other has the value UNREACHED
  pub reached : (u : ℕ) (es : List ℕ) (v : ℕ) → IsStart starts u → Leads arcs u es v → IsReached values v
  pub unreached : (v : ℕ) → v < length starts → ¬ EndsWalk arcs starts v → value_at values v ≡ UNREACHED
  -- no arc brings its end more than the end has
  pub met : (e : ℕ) → e < length arcs → IsReached values (arc_at arcs e).from →
      IsReached values (arc_at arcs e).to × (brought values (arc_at arcs e) ≤ℤ value_at values (arc_at arcs e).to)
  -- each value comes from a start or by an arc
  pub tight : (v : ℕ) → v < length starts → IsReached values v → IsTight arcs starts values v
  -- of all numbers that meet the arcs and are nowhere below a start, the values are the least
  pub least : (x : ℕ → ℤ) → Meets arcs x → ((u : ℕ) → IsStart starts u → value_at starts u ≤ℤ x u) →
      (v : ℕ) → v < length starts → IsReached values v → value_at values v ≤ℤ x v
  -- no closed chain that a walk reaches has a positive weight
  pub no_chain : (v : ℕ) (es : List ℕ) → IsReached values v → Leads arcs v es v → weight_of arcs es ≤ℤ pos 0
  -- where starts are from -s to s and weights from -w to w, the values lie within a start and one arc for each node
  pub bounded : (s w : ℕ) → AreBounded s starts →
      ((e : ℕ) → e < length arcs → IsWithin w (arc_at arcs e).weight) →
      (v : ℕ) → v < length starts → IsReached values v → IsWithin (s + length starts * w) (value_at values v)

-- these arcs are a closed chain of positive weight that meets no node twice
pub record IsPositiveChain (arcs : List Arc) (es : List ℕ) : Type 0 where
  pub closed : (v : ℕ) × Leads arcs v es v
  pub apart : AllPairs (λ a b. (arc_at arcs a).to ≢ (arc_at arcs b).to) es
  pub positive : pos 0 <ℤ weight_of arcs es

-- what `Chain` says: the first len numbers are a closed chain of positive weight
pub record HasChain (arcs : List Arc) (starts : List ℤ) (chain : List ℕ) (len : ℕ) : Type 0 where
  pub fits : len ≤ length chain
  pub positive : IsPositiveChain arcs (take len chain)
  -- a walk leads to it, so that walks to its nodes have no greatest value
  pub reached : (v : ℕ) × EndsWalk arcs starts v × Leads arcs v (take len chain) v
  -- so no numbers meet the arcs
  pub unmet : (x : ℕ → ℤ) → ¬ Meets arcs x

-- what an answer says
abbrev pub IsAnswered : List Arc → List ℤ → List ℤ → List ℕ → Answer → Type 0
IsAnswered arcs starts values chain Values = HasGreatest arcs starts values
IsAnswered arcs starts values chain (Chain len) = HasChain arcs starts chain len

-- with `Values` the chain's buffer stays as it was
abbrev pub IsKept : List ℕ → List ℕ → Answer → Type 0
IsKept old new Values = new ≡ old
IsKept old new (Chain len) = Unit {0}
