-- The ring that last arcs lead back round, collected.
use Rattle.std.proofs.Common.{◌≡◌, ◌≢◌, ℕ, zero, suc, ◌+◌, ◌-◌, ◌<◌, ◌≤◌, List, [], ◌∷◌, length, slice_index, get_or, set, take, drop, refl, sym, ap, arith, ◌∙◌, length-take}
use Rattle.mintc_graph_walks.specs.declared.network.Arc.{Arc}
use Rattle.mintc_graph_walks.specs.Walks.{arc_at, Leads}
use Rattle.mintc_graph_walks.specs.Chains.{parent, AreParents, IsRing, AreLast, IsLoop}

-- each of these arcs raised its end last, and the ends' marks descend from below b
abbrev pub Descends : List Arc → List ℕ → List ℕ → ℕ → List ℕ → Type 0
Descends arcs before marks b [] = Unit {0}
Descends arcs before marks b (e ∷ es) = ((arc_at arcs e).to < length before) × (slice_index before (arc_at arcs e).to ≡ e) × (slice_index marks (arc_at arcs e).to < b) × Descends arcs before marks (slice_index marks (arc_at arcs e).to) es

-- after t steps back from the node, now at x: the last t of len places hold the arcs, in order
pub record IsCollected (arcs : List Arc) (before marks : List ℕ) (node len t : ℕ) (chain : List ℕ) (x : ℕ) : Type 0 where
  pub inside : x < length before
  pub here : t < len → slice_index marks x ≡ slice_index marks node + t
  pub done : t ≡ len → x ≡ node
  pub leads : Leads arcs x (drop (len - t) (take len chain)) node
  pub descends : Descends arcs before marks (slice_index marks node + t) (drop (len - t) (take len chain))

-- one more number in front of the last ones of the first len places
suffix_write : (xs : List ℕ) (i len e : ℕ) → i < len → len ≤ length xs → drop i (take len (set xs i e)) ≡ e ∷ drop (suc i) (take len xs)
suffix_write [] i len e h l = absurd (omega arith)
suffix_write (x ∷ xs) i zero e h l = absurd (omega arith)
suffix_write (x ∷ xs) zero (suc len) e h l = refl
suffix_write (x ∷ xs) (suc i) (suc len) e h l = suffix_write xs i len e (omega arith) (omega arith)

module _ (arcs : List Arc) (before marks : List ℕ) where
  Descends-below : (b : ℕ) (es : List ℕ) → Descends arcs before marks b es → (k d : ℕ) → k < length es → get_or marks (arc_at arcs (get_or es k d)).to 0 < b
  Descends-below b [] h k d l = absurd (omega arith)
  Descends-below b (e ∷ es) h zero d l = h.2
  Descends-below b (e ∷ es) h (suc k) d l = let f = Descends-below (get_or marks (arc_at arcs e).to 0) es h.3 k d (omega arith) in let g = h.2 in omega arith

  Descends-apart : (b : ℕ) (es : List ℕ) → Descends arcs before marks b es → (i j d : ℕ) → i < j → j < length es → (arc_at arcs (get_or es i d)).to ≢ (arc_at arcs (get_or es j d)).to
  Descends-apart b [] h i j d l m = absurd (omega arith)
  Descends-apart b (e ∷ es) h i zero d l m = absurd (omega arith)
  Descends-apart b (e ∷ es) h zero (suc j) d l m = λ q. let f = Descends-below (get_or marks (arc_at arcs e).to 0) es h.3 j d (omega arith) in let g = ap (λ v. get_or marks v 0) q in omega arith
  Descends-apart b (e ∷ es) h (suc i) (suc j) d l m = Descends-apart (get_or marks (arc_at arcs e).to 0) es h.3 i j d (omega arith) (omega arith)

  Descends-last : (b : ℕ) (es : List ℕ) → Descends arcs before marks b es → AreLast arcs before es
  Descends-last b [] h = tt
  Descends-last b (e ∷ es) h = (h.0, h.1, Descends-last (get_or marks (arc_at arcs e).to 0) es h.3)

  module _ (node len t : ℕ) (chain : List ℕ) (x : ℕ) (p : IsCollected arcs before marks node len t chain x) (ring : IsRing arcs before marks node len) (same : length chain ≡ length before) where
    module _ (x' : ℕ) (parents : AreParents arcs before) (below : t < len) (goes : x' ≡ parent arcs before x) where
      abbrev e : ℕ
      e = get_or before x 0

      mark : get_or marks x 0 ≡ get_or marks node 0 + t
      mark = p.here below

      known : (e < length arcs) × ((arc_at arcs e).to ≡ x) × (parent arcs before x < length before)
      known = parents x p.inside (ring.raised x p.inside (let m = mark in omega arith))

      written : drop (len - (t + 1)) (take len (set chain (len - 1 - t) e)) ≡ e ∷ drop (len - t) (take len chain)
      written =
          let i : len - (t + 1) ≡ len - 1 - t = omega arith in
          let s : suc (len - 1 - t) ≡ len - t = omega arith in
          let f = ring.fits in
          let w = suffix_write chain (len - 1 - t) len e (omega arith) (omega arith) in
          rw (i, ← s) w

      pub IsCollected-more : IsCollected arcs before marks node len (t + 1) (set chain (len - 1 - t) e) x'
      IsCollected-more = record {
        inside = rw goes known.2;
        here = λ l. let m = mark in rw goes (let n = ring.next x p.inside (omega arith) (omega arith) in omega arith);
        done = λ l. let m = mark in goes ∙ ring.closes x p.inside (omega arith) (omega arith);
        leads = rw written (known.0, sym goes, rw known.1 p.leads);
        descends = (let m = mark in rw written (rw known.1 p.inside, rw known.1 refl, rw known.1 (omega arith), rw (known.1, mark) p.descends));
      }

    pub IsLoop-from_collected : t ≡ len → IsLoop arcs before node (take len chain)
    IsLoop-from_collected q =
        let z : len - t ≡ 0 = omega arith in
        let leads = rw (z, p.done q) at p.leads in
        let descends = rw z at p.descends in
        record {
          some = (let s = ring.some in let f = ring.fits in simp length-take (omega arith));
          inside = ring.inside;
          closed = leads;
          apart = Descends-apart (get_or marks node 0 + t) (take len chain) descends;
          last = Descends-last (get_or marks node 0 + t) (take len chain) descends;
        }
