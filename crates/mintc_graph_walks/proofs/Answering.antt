-- Values that a round leaves alone are the greatest.
use Rattle.std.proofs.Common.{pos, ◌≡◌, ℕ, zero, suc, ℤ, ◌+◌, ◌+ℤ◌, ◌≤ℤ◌, ◌<ℤ◌, ◌<◌, List, [], ◌∷◌, length, None, get_or, ⊎_elim, inl, inr, refl, ap, arith, ◌*◌}
use Rattle.std.proofs.lemmas.Int.{ints, by_lt_z}
use Rattle.std.proofs.lemmas.Bool.{cases_eq}
use Rattle.mintc_graph_walks.specs.declared.network.Arc.{Arc}
use Rattle.mintc_graph_walks.specs.declared.network.TheConstants.{UNREACHED, NONE}
use Rattle.mintc_graph_walks.specs.Bounds.{IsWithin, AreBounded}
use Rattle.mintc_graph_walks.specs.Walks.{arc_at, value_at, brought, IsStart, Leads, EndsWalk, weight_of}
use Rattle.mintc_graph_walks.specs.Answers.{IsTight, HasGreatest}
use Rattle.mintc_graph_walks.specs.Rises.{Walk, HasPassed}
use Rattle.mintc_graph_walks.proofs.Rounds.{IsRound}
use Rattle.mintc_graph_walks.proofs.Shortening.{shorten, short_within, walk_of_path}
use Rattle.mintc_graph_walks.proofs.Walking.{arcs_of_walk, walk_of_arcs, potentials_along}

-- nothing was raised in a pass
module _ (arcs : List Arc) (starts values : List ℤ) (old_before : List ℕ) (new : List ℤ) (before : List ℕ) (round : ℕ) (p : HasPassed arcs values old_before new before None) (r : IsRound arcs starts round values old_before) (lengths : length values ≡ length starts) where
  abbrev Met : Type 0
  Met = (e : ℕ) → e < length arcs → UNREACHED <ℤ value_at new (arc_at arcs e).from → (UNREACHED <ℤ value_at new (arc_at arcs e).to) × (brought new (arc_at arcs e) ≤ℤ value_at new (arc_at arcs e).to)

  -- each arc is met
  met : Met
  met e below r' = let s = p.still in let c = p.carried e below (rw s at r') in (c.0, rw s (rw s at c.1))

  -- each value is at least that of each walk
  covered : (j v : ℕ) (x : ℤ) → Walk arcs starts j v x → (UNREACHED <ℤ value_at new v) × (x ≤ℤ value_at new v)
  covered zero v x w = rw p.still (r.covered 0 v x (omega arith) w)
  covered (suc j) v x (e, y, below, w, to, sums) =
      let c = covered j (arc_at arcs e).from y w in
      let m = met e below c.0 in
      let at_to = ap (value_at new) to in
      (rw to at m.0, omega (arith, ints))

  -- values rise along arcs by at least their weight
  met_along : (es : List ℕ) (u v : ℕ) → UNREACHED <ℤ value_at new u → Leads arcs u es v → (value_at new u +ℤ weight_of arcs es) ≤ℤ value_at new v
  met_along [] u v q h = let e = ap (value_at new) h in omega (arith, ints)
  met_along (e ∷ es) u v q h =
      let m = met e h.0 (rw h.1 q) in
      let from = ap (value_at new) h.1 in
      let i = met_along es (arc_at arcs e).to v m.0 h.2 in
      omega (arith, ints)

  -- the last raise of a node still brings its value
  tight : (v : ℕ) → v < length starts → UNREACHED <ℤ value_at new v → IsTight arcs starts new v
  tight v h q =
      let all = r.tended.1 in
      let s = p.still in
      let here : v < length values = rw lengths h in
      ⊎_elim
      (λ z. let f = all.unraised v here z in let q' = rw (s, f) at q in inl ((h, q'), rw s f))
      (λ z.
      let e = get_or old_before v 0 in
      let t = all.tended v here z in
      let below = all.numbered v here z in
      let from : UNREACHED <ℤ value_at new (arc_at arcs e).from = rw s t.reached in
      let m = met e below from in
      let m1 = m.1 in
      let to = ap (value_at new) t.ends in
      let b : value_at new v ≤ℤ brought new (arc_at arcs e) = rw s t.brings in
      inr (e, below, t.ends, from, omega (arith, ints)))
      (cases_eq (get_or old_before v 0) NONE)

  -- some walk has the value
  attained : (v : ℕ) → v < length starts → UNREACHED <ℤ value_at new v → (u : ℕ) × (es : List ℕ) × IsStart starts u × Leads arcs u es v × (value_at starts u +ℤ weight_of arcs es ≡ value_at new v)
  attained v h q = let w = (r.tended).1.walked v (rw lengths h) (rw p.still at q) in arcs_of_walk arcs starts w.0 v (value_at new v) (rw p.still w.1)

  -- where no walk ends the value is UNREACHED
  unreached : (v : ℕ) → v < length starts → (EndsWalk arcs starts v → ⊥) → value_at new v ≡ UNREACHED
  unreached v h none =
      let low : UNREACHED ≤ℤ value_at new v = rw p.still (r.bounded v (rw lengths h)).0 in
      by_lt_z UNREACHED (value_at new v) (λ q. let a = attained v h q in absurd (none (a.0, a.1, a.2, a.3))) (λ q. omega (arith, ints))

  -- a closed chain of positive weight would raise the value where it begins
  no_chain : (v : ℕ) (es : List ℕ) → UNREACHED <ℤ value_at new v → Leads arcs v es v → weight_of arcs es ≤ℤ pos 0
  no_chain v es q l = let m = met_along es v v q l in omega (arith, ints)

  -- some path with no node twice has the value
  bounded : ((e : ℕ) → e < length arcs → (arc_at arcs e).to < length starts) → (s w : ℕ) → AreBounded s starts → ((e : ℕ) → e < length arcs → IsWithin w (arc_at arcs e).weight) → (v : ℕ) → v < length starts → UNREACHED <ℤ value_at new v → IsWithin (s + length starts * w) (value_at new v)
  bounded ends s w low small v h q =
      let a = (r.tended).1.walked v (rw lengths h) (rw p.still at q) in
      let p' = shorten arcs starts (λ u. UNREACHED <ℤ value_at new u) (λ k u x y. (covered k u x y).0) no_chain a.0 v (value_at new v) (rw p.still a.1) in
      let c = (covered (length p'.0) v p'.1 (walk_of_path arcs starts p'.0 v p'.1 p'.2)).1 in
      let le = p'.4 in
      let b = short_within arcs starts (length starts) s w refl ends low small p'.0 v p'.1 p'.2 p'.3 in
      let b0 = b.0 in
      let b1 = b.1 in
      (omega (arith, ints), omega (arith, ints))

  -- what is answered with the values
  pub HasGreatest-from_still : ((e : ℕ) → e < length arcs → (arc_at arcs e).to < length starts) → HasGreatest arcs starts new
  HasGreatest-from_still ends = record {
    bounded = bounded ends;
    greatest = λ v h q. record {
      attained = attained v h q;
      none_greater = λ u es s l. let w = walk_of_arcs arcs starts es u v 0 (value_at starts u) (s, refl) l in let c = covered w.0 v w.1 w.2 in let e = w.3 in omega (arith, ints);
    };
    reached = λ u es v s l. let w = walk_of_arcs arcs starts es u v 0 (value_at starts u) (s, refl) l in (covered w.0 v w.1 w.2).0;
    unreached = unreached;
    met = met;
    tight = tight;
    least = λ x m above v h q. let a = attained v h q in let b = above a.0 a.2 in let c = potentials_along arcs x m a.1 a.0 v a.3 in let d = a.4 in omega (arith, ints);
    no_chain = λ v es q l. let m = met_along es v v q l in omega (arith, ints);
  }
