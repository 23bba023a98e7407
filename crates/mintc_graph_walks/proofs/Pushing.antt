-- One more arc at the end of a walk.
use Rattle.std.proofs.Common.{◌≡◌, ℕ, ◌+ℤ◌, ◌<◌, List, [], ◌∷◌, ◌++◌, length, arith}
use Rattle.std.proofs.lemmas.Int.{ints}
use Rattle.mintc_graph_walks.specs.declared.network.Arc.{Arc}
use Rattle.mintc_graph.proofs.SharedRingLaws.{LeadsBy-push}
use Rattle.mintc_graph_walks.specs.Walks.{arc_at, no_arc, Leads, weight_of}

module _ (arcs : List Arc) where
  pub Leads-push : (u : ℕ) (es : List ℕ) (e v : ℕ) → Leads arcs u es (arc_at arcs e).from → e < length arcs → (arc_at arcs e).to ≡ v → Leads arcs u (es ++ e ∷ []) v
  Leads-push u es e v h below to = LeadsBy-push (λ (a : Arc). a.from) (λ (a : Arc). a.to) no_arc arcs u es e v below h to

  pub weight_of-push : (es : List ℕ) (e : ℕ) → weight_of arcs (es ++ e ∷ []) ≡ weight_of arcs es +ℤ (arc_at arcs e).weight
  weight_of-push [] e = omega (arith, ints)
  weight_of-push (f ∷ es) e = let h = weight_of-push es e in omega (arith, ints)
