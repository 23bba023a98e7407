-- A closed list of last arcs is a chain of positive weight.
use Rattle.std.proofs.Common.{◌≡◌, ◌≢◌, ℕ, ℤ, ◌+◌, ◌^◌, ◌+ℤ◌, ◌≤ℤ◌, ◌<◌, ◌≤◌, List, [], ◌∷◌, length, get_or, take, ap, arith}
use Rattle.std.proofs.lemmas.Int.{ints}
use Rattle.mintc_graph_walks.specs.declared.network.Arc.{Arc}
use Rattle.mintc_graph_walks.specs.declared.network.TheConstants.{NONE}
use Rattle.mintc_graph_walks.specs.Walks.{arc_at, value_at, brought, IsReached, Leads, EndsWalk, weight_of}
use Rattle.mintc_graph_walks.specs.Answers.{IsPositiveChain, HasChain}
use Rattle.mintc_graph_walks.specs.Rises.{AreTended}
use Rattle.mintc_graph_walks.specs.Chains.{AreLast, IsLoop}
use Rattle.mintc_graph_walks.proofs.Walking.{arcs_of_walk, potentials_along}

-- a closed chain of arcs that raised their ends last
module _ (arcs : List Arc) (starts values : List ℤ) (before : List ℕ) (same : length before ≡ length values) (few : length arcs < 2 ^ 32) (age : ℕ → ℕ) (all : AreTended arcs starts values before age) where
  -- along these arcs the value rises by no more than their weight, and where it rises by as much, the age rises with each
  rises_along : (es : List ℕ) (u v : ℕ) → Leads arcs u es v → AreLast arcs before es → (value_at values v ≤ℤ (value_at values u +ℤ weight_of arcs es)) × (value_at values v ≡ value_at values u +ℤ weight_of arcs es → age u + length es ≤ age v)
  rises_along [] u v h l = let e = ap (value_at values) h in let f = ap age h in (omega (arith, ints), λ q. omega arith)
  rises_along (e ∷ es) u v h l =
      let i = rises_along es (arc_at arcs e).to v h.2 l.2 in
      let below = h.0 in
      let number = l.1 in
      let some : get_or before (arc_at arcs e).to 0 ≢ NONE = λ q. omega arith in
      let t = rw number at (all.tended (arc_at arcs e).to (rw same at l.0) some) in
      let from = ap (value_at values) h.1 in
      let from_age = ap age h.1 in
      let brings = t.brings in
      let younger = t.younger in
      let i0 = i.0 in
      let i1 = i.1 in (
        omega (arith, ints),
        λ q.
            let a : value_at values (arc_at arcs e).to ≡ brought values (arc_at arcs e) = omega (arith, ints) in
            let b : value_at values v ≡ value_at values (arc_at arcs e).to +ℤ weight_of arcs es = omega (arith, ints) in
            let y = younger a in
            let z = i1 b in
            omega arith,
      )

  -- a walk leads to each reached node
  EndsWalk-at_reached : (v : ℕ) → v < length values → IsReached values v → EndsWalk arcs starts v
  EndsWalk-at_reached v h r = let w = all.walked v h r in let a = arcs_of_walk arcs starts w.0 v (value_at values v) w.1 in (a.0, a.1, a.2, a.3)

  -- the chain begins at a node to which a walk leads
  EndsWalk-at_last : (es : List ℕ) (u v : ℕ) → 0 < length es → Leads arcs u es v → AreLast arcs before es → EndsWalk arcs starts u
  EndsWalk-at_last [] u v s h l = absurd (omega arith)
  EndsWalk-at_last (e ∷ es) u v s h l =
      let below = h.0 in
      let number = l.1 in
      let some : get_or before (arc_at arcs e).to 0 ≢ NONE = λ q. omega arith in
      let t = rw number at (all.tended (arc_at arcs e).to (rw same at l.0) some) in
      let a : EndsWalk arcs starts (arc_at arcs e).from = EndsWalk-at_reached (arc_at arcs e).from t.inside t.reached in
      rw h.1 at a

  -- round a closed chain neither the value nor the age rises, so its weight is above 0
  IsPositiveChain-from_loop : (node : ℕ) (es : List ℕ) → IsLoop arcs before node es → IsPositiveChain arcs es
  IsPositiveChain-from_loop node es l =
      let r = rises_along es node node l.closed l.last in
      let r0 = r.0 in
      let some = l.some in
      let strict : value_at values node ≢ (value_at values node +ℤ weight_of arcs es) = λ q. let a = r.1 q in omega arith in
      record {
        closed = (node, l.closed);
        apart = l.apart;
        positive = omega (arith, ints);
      }

  -- what is answered with a chain
  pub HasChain-from_loop : (node : ℕ) (chain : List ℕ) (len : ℕ) → len ≤ length chain → IsLoop arcs before node (take len chain) → HasChain arcs starts chain len
  HasChain-from_loop node chain len fits l =
      let positive = IsPositiveChain-from_loop node (take len chain) l in record {
        fits = fits;
        positive = positive;
        reached = (node, EndsWalk-at_last (take len chain) node node l.some l.closed l.last, l.closed);
        unmet = λ x m. let q = potentials_along arcs x m (take len chain) node node l.closed in let p = positive.positive in omega (arith, ints);
      }
