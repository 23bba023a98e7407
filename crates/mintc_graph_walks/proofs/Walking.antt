-- Walks as lists of arcs and as steps.
use Rattle.std.proofs.Common.{◌≡◌, ℕ, zero, suc, ℤ, ◌+ℤ◌, ◌≤ℤ◌, List, [], ◌∷◌, ◌++◌, refl, ap, arith}
use Rattle.std.proofs.lemmas.Int.{ints}
use Rattle.mintc_graph_walks.specs.declared.network.Arc.{Arc}
use Rattle.mintc_graph_walks.specs.Walks.{arc_at, value_at, IsStart, Leads, weight_of}
use Rattle.mintc_graph_walks.specs.Rises.{Walk}
use Rattle.mintc_graph_walks.specs.Answers.{Meets}
use Rattle.mintc_graph_walks.proofs.Pushing.{Leads-push, weight_of-push}

module _ (arcs : List Arc) where
  -- numbers that meet the arcs rise along them
  pub potentials_along : (x : ℕ → ℤ) → Meets arcs x → (es : List ℕ) (u v : ℕ) → Leads arcs u es v → (x u +ℤ weight_of arcs es) ≤ℤ x v
  potentials_along x m [] u v h = let e = ap x h in omega (arith, ints)
  potentials_along x m (e ∷ es) u v h = let i = potentials_along x m es (arc_at arcs e).to v h.2 in let q = m e h.0 in let f = ap x h.1 in omega (arith, ints)

  module _ (starts : List ℤ) where
    -- a walk by its length is a walk by its arcs
    pub arcs_of_walk : (k v : ℕ) (x : ℤ) → Walk arcs starts k v x → (u : ℕ) × (es : List ℕ) × IsStart starts u × Leads arcs u es v × (value_at starts u +ℤ weight_of arcs es ≡ x)
    arcs_of_walk zero v x w = let e = w.1 in (v, [], w.0, refl, omega (arith, ints))
    arcs_of_walk (suc k) v x (e, y, below, w, to, sums) =
        let r = arcs_of_walk k (arc_at arcs e).from y w in
        let p = weight_of-push arcs r.1 e in
        let q = r.4 in
        (r.0, r.1 ++ e ∷ [], r.2, Leads-push arcs r.0 r.1 e v r.3 below to, omega (arith, ints))

    -- arcs that lead on from the end of a walk make a longer one
    pub walk_of_arcs : (es : List ℕ) (u v k : ℕ) (x : ℤ) → Walk arcs starts k u x → Leads arcs u es v → (j : ℕ) × (z : ℤ) × Walk arcs starts j v z × (x +ℤ weight_of arcs es ≡ z)
    walk_of_arcs [] u v k x w h = (k, x, rw h at w, omega (arith, ints))
    walk_of_arcs (e ∷ es) u v k x w h =
        let w' : Walk arcs starts (suc k) (arc_at arcs e).to (x +ℤ (arc_at arcs e).weight) = (e, x, h.0, rw h.1 w, refl, refl) in
        let r = walk_of_arcs es (arc_at arcs e).to v (suc k) (x +ℤ (arc_at arcs e).weight) w' h.2 in
        let q = r.3 in
        (r.0, r.1, r.2, omega (arith, ints))
