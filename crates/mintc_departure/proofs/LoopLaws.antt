-- a closed chain of positive weight is a loop of pairs of latches
use Rattle.std.proofs.Common.{◌≡◌, ℕ, zero, suc, ◌-◌, ◌<◌, ◌≢◌, ℤ, pos, ◌+ℤ◌, ◌≤ℤ◌, ◌<ℤ◌, true, false, List, [], ◌∷◌, length, get_or, arith, refl, sym, ap, ◌∙◌, ⊎_elim}
use Rattle.std.proofs.lemmas.Int.{ints}
use Rattle.std.proofs.lemmas.Bool.{cases_Bool}
use Rattle.std.proofs.lemmas.List.Elements.{All-nil, All-cons, All-head, All-tail}
use Rattle.std.specs.List.{All, AllPairs}
use Rattle.mintc_graph_walks.specs.declared.network.Arc.{Arc}
use Rattle.mintc_graph_walks.specs.Walks.{arc_at, Leads, weight_of}
use Rattle.mintc_graph_walks.specs.Answers.{IsPositiveChain}
use Rattle.mintc_timing.specs.declared.clocking.Schedule.{Schedule}
use Rattle.mintc_graph.specs.Rings.{Joins, IsClosed}
use Rattle.mintc_timing.specs.Design.{Timing, element_at, pair_at}
use Rattle.mintc_timing.specs.Violations.{HasLoop, loop_amount}
use Rattle.mintc_departure.specs.Networks.{late_travel, arcs_of}
use Rattle.mintc_departure.proofs.NetworkLaws.{arcs-count, arc_is}

-- Place by place: each arc begins where the one before ends, and the last one ends where the walk does.
leads_next : (arcs : List Arc) (es : List ℕ) (u v i d : ℕ) → Leads arcs u es v → suc i < length es →
    (arc_at arcs (get_or es (suc i) d)).from ≡ (arc_at arcs (get_or es i d)).to
leads_next arcs [] u v i d h lt = absurd (omega arith)
leads_next arcs (n ∷ []) u v i d h lt = absurd (omega arith)
leads_next arcs (n ∷ m ∷ es) u v zero d h lt = h.2.1
leads_next arcs (n ∷ m ∷ es) u v (suc i) d h lt = leads_next arcs (m ∷ es) (arc_at arcs n).to v i d h.2 (omega arith)

leads_last : (arcs : List Arc) (es : List ℕ) (u v i d : ℕ) → Leads arcs u es v → length es ≡ suc i → (arc_at arcs (get_or es i d)).to ≡ v
leads_last arcs [] u v i d h e = absurd (omega arith)
leads_last arcs (n ∷ []) u v zero d h e = h.2
leads_last arcs (n ∷ []) u v (suc i) d h e = absurd (omega arith)
leads_last arcs (n ∷ m ∷ es) u v zero d h e = absurd (omega arith)
leads_last arcs (n ∷ m ∷ es) u v (suc i) d h e = leads_last arcs (m ∷ es) (arc_at arcs n).to v i d h.2 (omega arith)

leads_first : (arcs : List Arc) (es : List ℕ) (u v d : ℕ) → Leads arcs u es v → 0 < length es → (arc_at arcs (get_or es 0 d)).from ≡ u
leads_first arcs [] u v d h lt = absurd (omega arith)
leads_first arcs (n ∷ es) u v d h lt = h.1

-- Where the ends of a closed walk's arcs are all different, so are their beginnings.
begin_apart : (arcs : List Arc) (es : List ℕ) (v : ℕ) → Leads arcs v es v → AllPairs (λ a b. (arc_at arcs a).to ≢ (arc_at arcs b).to) es →
    (i j d : ℕ) → i < j → j < length es → (arc_at arcs (get_or es i d)).from ≢ (arc_at arcs (get_or es j d)).from
begin_apart arcs es v h apart i zero d lt within = absurd (omega arith)
begin_apart arcs es v h apart zero (suc j) d lt within =
    let k : ℕ = length es - 1 in
    let first = leads_first arcs es v v d h (omega arith) in
    let last = leads_last arcs es v v k d h (omega arith) in
    let next = leads_next arcs es v v j d h within in
    let below : j < k = omega arith in
    let inside : k < length es = omega arith in
    λ e. apart j k d below inside (sym next ∙ sym e ∙ first ∙ sym last)
begin_apart arcs es v h apart (suc i) (suc j) d lt within =
    let one = leads_next arcs es v v i d h (omega arith) in
    let two = leads_next arcs es v v j d h within in
    let below : i < j = omega arith in
    let inside : j < length es = omega arith in
    λ e. apart i j d below inside (sym one ∙ e ∙ two)

module _ (t : Timing) (s : Schedule) where
  -- A walk to a flop stays there, and weighs nothing or less.
  walk_to_flop : (es : List ℕ) (u v : ℕ) → Leads (arcs_of t s) u es v → (element_at t.flat v).flop ≡ true → (u ≡ v) × (weight_of (arcs_of t s) es ≤ℤ pos 0)
  walk_to_flop [] u v h e = (h, omega (arith, ints))
  walk_to_flop (n ∷ es) u v h e =
      let rest = walk_to_flop es (arc_at (arcs_of t s) n).to v h.2 e in
      let k : n < length t.pairs = rw (arcs-count t s) at h.0 in
      let to : (pair_at t n).to ≡ v = rw (arc_is t s n k) at rest.0 in
      let flop : (element_at t.flat (pair_at t n).to).flop ≡ true = ap (λ (m : ℕ). (element_at t.flat m).flop) to ∙ e in
      (sym (rw (arc_is t s n k, flop) at h.1) ∙ to, rw (arc_is t s n k, flop) (omega (arith, ints)))

  -- a pair of latches
  abbrev JoinsLatches : ℕ → Type 0
  JoinsLatches n = (n < length t.pairs) × ((element_at t.flat (pair_at t n).to).flop ≡ false) × ((element_at t.flat (pair_at t n).from).flop ≡ false)

  -- A walk from a latch meets latches alone.
  walk_from_latch : (es : List ℕ) (u v : ℕ) → Leads (arcs_of t s) u es v → (element_at t.flat u).flop ≡ false → All JoinsLatches es
  walk_from_latch [] u v h e = All-nil JoinsLatches
  walk_from_latch (n ∷ es) u v h e =
      let k : n < length t.pairs = rw (arcs-count t s) at h.0 in
      let latch : (element_at t.flat (pair_at t n).to).flop ≡ false =
      ⊎_elim
      (λ (flop : (element_at t.flat (pair_at t n).to).flop ≡ true). let b = ap (λ (m : ℕ). (element_at t.flat m).flop) (rw (arc_is t s n k, flop) at h.1) ∙ e in absurd (cc))
      (λ latch. latch)
      (cases_Bool (element_at t.flat (pair_at t n).to).flop) in
      All-cons JoinsLatches n es (k, latch, ap (λ (m : ℕ). (element_at t.flat m).flop) (rw (arc_is t s n k, latch) at h.1) ∙ e)
      (walk_from_latch es (arc_at (arcs_of t s) n).to v h.2 (rw (arc_is t s n k) latch))

  pairs_join : (es : List ℕ) (u v : ℕ) → Leads (arcs_of t s) u es v → All JoinsLatches es → Joins (λ n. (pair_at t n).from) (λ n. (pair_at t n).to) u es v
  pairs_join [] u v h latches = h
  pairs_join (n ∷ es) u v h latches =
      let here = All-head JoinsLatches n es latches in
      (rw (arc_is t s n here.0, here.1) at h.1, rw (arc_is t s n here.0) at (pairs_join es (arc_at (arcs_of t s) n).to v h.2 (All-tail JoinsLatches n es latches)))

  pairs_amount : (es : List ℕ) → All JoinsLatches es → loop_amount t s es ≡ weight_of (arcs_of t s) es
  pairs_amount [] latches = refl
  pairs_amount (n ∷ es) latches =
      let here = All-head JoinsLatches n es latches in
      rw (arc_is t s n here.0, here.1) (ap (λ z. late_travel t.flat s (pair_at t n) +ℤ z) (pairs_amount es (All-tail JoinsLatches n es latches)))

  closed_at : (es : List ℕ) (v : ℕ) → Joins (λ n. (pair_at t n).from) (λ n. (pair_at t n).to) v es v → pos 0 <ℤ weight_of (arcs_of t s) es →
      IsClosed (λ n. (pair_at t n).from) (λ n. (pair_at t n).to) es
  closed_at [] v h positive = absurd (omega (arith, ints))
  closed_at (n ∷ es) v h positive =
      rw h.0 h.1

  -- A closed chain of positive weight is a loop of pairs of latches.
  pub loop-from_chain : (es : List ℕ) → IsPositiveChain (arcs_of t s) es → (amount : ℤ) × HasLoop t s es amount
  loop-from_chain es chain =
      let v : ℕ = chain.closed.0 in
      let leads : Leads (arcs_of t s) v es v = chain.closed.1 in
      let positive = chain.positive in
      ⊎_elim
      (λ flop. let w = (walk_to_flop es v v leads flop).1 in absurd (omega (arith, ints)))
      (λ latch.
      let latches : All JoinsLatches es = walk_from_latch es v v leads latch in
      let amount = pairs_amount es latches in (
        loop_amount t s es,
        record {
          is_loop = record {
            exist = λ i d within. (latches i d within).0;
            latches = λ i d within. (latches i d within).2;
            closed = closed_at es v (pairs_join es v v leads latches) positive;
            once = λ i j d lt within.
                let a = latches i d (omega arith) in
                let b = latches j d within in
                rw (arc_is t s (get_or es i d) a.0, a.1, arc_is t s (get_or es j d) b.0, b.1) at (begin_apart (arcs_of t s) es v leads chain.apart i j d lt within);
          };
          is_amount = refl;
          above = rw amount positive;
        },
      ))
      (cases_Bool (element_at t.flat v).flop)
