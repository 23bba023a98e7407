-- An order of the arcs, the places of arcs in it, and paths along its first arcs.
use Rattle.std.proofs.Common.{◌≡◌, ◌≢◌, ℕ, ◌<◌, ◌≤◌, ◌+◌, List, [], ◌∷◌, ◌++◌, length, get_or, arith, refl, ap, ◌∙◌, sym, ◌⊎◌, inl, inr, ⊎_elim}
use Rattle.std.proofs.lemmas.List.{get_or_default, get_or_past}
use Rattle.mintc_timing.specs.declared.parts.TimingArc.{TimingArc}
use Rattle.mintc_timing.specs.Design.{no_arc}
use Rattle.mintc_graph.proofs.SharedRingLaws.{LeadsBy-push}
use Rattle.mintc_timing.specs.Paths.{Leads, arc_at}
use Rattle.mintc_timing.specs.Order.{IsOrder}
use Rattle.mintc_timing.specs.Among.{IsAmong, AreAmong}

-- one more arc at the end of a path
pub Leads-push : (arcs : List TimingArc) (from : ℕ) (path : List ℕ) (n : ℕ) → n < length arcs → Leads arcs from path (arc_at arcs n).from →
    Leads arcs from (path ++ n ∷ []) (arc_at arcs n).to
Leads-push arcs from path n below h = LeadsBy-push (λ (a : TimingArc). a.from) (λ (a : TimingArc). a.to) no_arc arcs from path n (arc_at arcs n).to below h refl

pub AreAmong-push : (order : List ℕ) (k : ℕ) (path : List ℕ) (n : ℕ) → AreAmong order k path → IsAmong order k n → AreAmong order k (path ++ n ∷ [])
AreAmong-push order k [] n h g = (g, tt)
AreAmong-push order k (m ∷ path) n h g = (h.0, AreAmong-push order k path n h.1 g)

pub AreAmong-more : (order : List ℕ) (k : ℕ) (path : List ℕ) → AreAmong order k path → AreAmong order (k + 1) path
AreAmong-more order k [] h = tt
AreAmong-more order k (m ∷ path) h = ((h.0.0, omega (arith, h.0.1), h.0.2, h.0.3), AreAmong-more order k path h.1)

pub none_among : (order : List ℕ) (path : List ℕ) → AreAmong order 0 path → path ≡ []
none_among order [] h = refl
none_among order (m ∷ path) h = absurd (omega (arith, h.0.1))

-- A path along the first k + 1 arcs either keeps to the first k, or ends with the arc at k.
abbrev pub IsSplit : List TimingArc → List ℕ → ℕ → ℕ → List ℕ → ℕ → Type 0
IsSplit arcs order k from path to =
    AreAmong order k path
    ⊎ ((before : List ℕ) × AreAmong order k before × Leads arcs from before (arc_at arcs (get_or order k 0)).from
    × (to ≡ (arc_at arcs (get_or order k 0)).to) × (path ≡ before ++ get_or order k 0 ∷ []))

module _ (arcs : List TimingArc) (order : List ℕ) (is_order : IsOrder arcs order) where
  -- the place of an arc in the order
  pub place : (n : ℕ) → n < length arcs → (i : ℕ) × (i < length order) × (get_or order i 0 ≡ n)
  place n below =
      let found = is_order.whole n below in
      (found.0, found.1, get_or_default order found.0 0 n found.1 ∙ found.2)

  pub follows : (m n i j : ℕ) → i < length order → get_or order i 0 ≡ m → j < length order → get_or order j 0 ≡ n → (arc_at arcs m).to ≡ (arc_at arcs n).from → i < j
  follows m n i j p a q b met = is_order.ordered i j p q (ap (λ (x : ℕ). (arc_at arcs x).to) a ∙ met ∙ sym (ap (λ (x : ℕ). (arc_at arcs x).from) b))

  -- Along arcs that lead on, places grow.
  pub later : (from n : ℕ) (path : List ℕ) (to m i j : ℕ) → Leads arcs from (n ∷ path) to → i < length order → get_or order i 0 ≡ n →
      j < length order → get_or order j 0 ≡ m → (arc_at arcs m).from ≡ to → i < j
  later from n [] to m i j h p a q b e = follows n m i j p a q b (h.2 ∙ sym e)
  later from n (n' ∷ path) to m i j h p a q b e =
      let next = place n' h.2.0 in
      let first = follows n n' i next.0 p a next.1 next.2 (sym h.2.1) in
      let rest = later (arc_at arcs n).to n' path to m next.0 j h.2 next.1 next.2 q b e in
      omega arith

  -- No arc leads from a bit to itself.
  pub apart : (n : ℕ) → n < length arcs → (arc_at arcs n).from ≢ (arc_at arcs n).to
  apart n below e =
      let at = place n below in
      let wrong = follows n n at.0 at.0 at.1 at.2 at.1 at.2 (sym e) in
      omega arith

  -- The order has arcs alone.
  pub inside : (i : ℕ) → i < length order → get_or order i 0 < length arcs
  inside i below =
      ⊎_elim (λ (low : get_or order i 0 < length arcs). low)
      (λ (high : length arcs ≤ get_or order i 0).
      let past : arc_at arcs (get_or order i 0) ≡ no_arc = get_or_past arcs (get_or order i 0) no_arc high in
      let wrong = is_order.ordered i i below below (ap (λ (a : TimingArc). a.to) past ∙ sym (ap (λ (a : TimingArc). a.from) past)) in
      absurd (omega arith))
      (low_or_high (get_or order i 0) (length arcs))
    where
      low_or_high : (i n : ℕ) → (i < n) ⊎ (n ≤ i)
      low_or_high i n = grind arith

  -- No arcs lead from a bit back to it.
  pub none_round : (path : List ℕ) (bit : ℕ) → Leads arcs bit path bit → path ≡ []
  none_round [] bit h = refl
  none_round (n ∷ path) bit h =
      let at = place n h.0 in
      let below = later bit n path bit n at.0 at.0 h at.1 at.2 at.1 at.2 h.1 in
      absurd (omega arith)

  -- All arcs stand in the order.
  pub all_among : (from : ℕ) (path : List ℕ) (to : ℕ) → Leads arcs from path to → AreAmong order (length order) path
  all_among from [] to h = tt
  all_among from (n ∷ path) to h =
      let at = place n h.0 in
      ((at.0, at.1, at.1, at.2), all_among (arc_at arcs n).to path to h.2)

  -- A path to the bit that the arc at k leaves keeps to the first k arcs.
  pub before_among : (from : ℕ) (path : List ℕ) (to k : ℕ) → Leads arcs from path to → k < length order → (arc_at arcs (get_or order k 0)).from ≡ to → AreAmong order k path
  before_among from [] to k h below e = tt
  before_among from (n ∷ path) to k h below e =
      let at = place n h.0 in
      let sooner = later from n path to (get_or order k 0) at.0 k h at.1 at.2 below refl e in
      ((at.0, sooner, at.1, at.2), before_among (arc_at arcs n).to path to k h.2 below e)

  -- where the first arc stands, before the rest
  split_first : (from n : ℕ) (path : List ℕ) (to k : ℕ) → k < length order → Leads arcs from (n ∷ path) to → IsAmong order (k + 1) n → AreAmong order k path →
      IsSplit arcs order k from (n ∷ path) to
  split_first from n [] to k below h g rest =
      ⊎_elim (λ (low : g.0 < k). inl ((g.0, low, g.2, g.3), tt))
      (λ (e : g.0 ≡ k).
      let same : get_or order k 0 ≡ n = ap (λ i. get_or order i 0) (sym e) ∙ g.3 in
      inr ([], tt, sym h.1 ∙ ap (λ (x : ℕ). (arc_at arcs x).from) (sym same), sym h.2 ∙ ap (λ (x : ℕ). (arc_at arcs x).to) (sym same), ap (λ x. x ∷ []) (sym same)))
      (low_or_at g.0 k g.1)
    where
      low_or_at : (i k : ℕ) → i < k + 1 → (i < k) ⊎ (i ≡ k)
      low_or_at i k h = grind arith
  split_first from n (m ∷ path) to k below h g rest =
      let first = follows n m g.0 rest.0.0 g.2 g.3 rest.0.2 rest.0.3 (sym h.2.1) in
      inl ((g.0, omega (arith, first, rest.0.1), g.2, g.3), rest)

  pub split : (from : ℕ) (path : List ℕ) (to k : ℕ) → k < length order → Leads arcs from path to → AreAmong order (k + 1) path → IsSplit arcs order k from path to
  split from [] to k below h g = inl tt
  split from (n ∷ path) to k below h g =
      ⊎_elim (λ rest. split_first from n path to k below h g.0 rest)
      (λ rest.
      let lead : Leads arcs from (n ∷ rest.0) (arc_at arcs (get_or order k 0)).from = (h.0, h.1, rest.2) in
      let sooner = later from n rest.0 (arc_at arcs (get_or order k 0)).from (get_or order k 0) g.0.0 k lead g.0.2 g.0.3 below refl refl in
      inr (n ∷ rest.0, ((g.0.0, sooner, g.0.2, g.0.3), rest.1), lead, rest.3, ap (λ (xs : List ℕ). n ∷ xs) rest.4))
      (split (arc_at arcs n).to path to k below h.2 g.1)
