-- The pairs of a design are determined.
use Rattle.std.proofs.Common.{◌≡◌, ℕ, zero, suc, ◌<◌, ◌+◌, ℤ, List, [], ◌∷◌, length, get_or, arith, refl, ap, ◌∙◌, sym, ◌⊎◌, inl, inr}
use Rattle.std.proofs.lemmas.Int.{ints}
use Rattle.std.specs.List.{Contains, AllAdjacentBelow}
use Rattle.mintc_timing.specs.declared.parts.Pair.{Pair}
use Rattle.mintc_timing.specs.Design.{Design}
use Rattle.mintc_timing.specs.Paths.{IsPath, input_of, HasExtremes, ComesBefore, ArePairs}
use Rattle.mintc_timing.specs.Laws.{PairsAreDetermined}

abbrev Ascend : List Pair → Type 0
Ascend ps = AllAdjacentBelow ComesBefore ps (length ps)

before_trans : (a b c : Pair) → ComesBefore a b → ComesBefore b c → ComesBefore a c
before_trans a b c (inl h) (inl g) = inl (omega arith)
before_trans a b c (inl h) (inr g) = inl (omega (arith, g.0))
before_trans a b c (inr h) (inl g) = inl (omega (arith, h.0))
before_trans a b c (inr h) (inr g) = inr (h.0 ∙ g.0, omega (arith, h.1, g.1))

before_asym : (a b : Pair) → ComesBefore a b → ComesBefore b a → ⊥
before_asym a b (inl h) (inl g) = omega arith
before_asym a b (inl h) (inr g) = omega (arith, g.0)
before_asym a b (inr h) (inl g) = omega (arith, h.0)
before_asym a b (inr h) (inr g) = omega (arith, h.1, g.1)

before_irrefl : (a b : Pair) → a ≡ b → ComesBefore a b → ⊥
before_irrefl a b e h =
    let from : a.from ≡ b.from = ap (λ (p : Pair). p.from) e in
    let to : a.to ≡ b.to = ap (λ (p : Pair). p.to) e in
    elim h [ inl g ↦ omega arith | inr g ↦ omega (arith, g.1) ]

Ascend-tail : (p : Pair) (ps : List Pair) → Ascend (p ∷ ps) → Ascend ps
Ascend-tail p ps h = λ k d below. let e : suc k + 1 ≡ suc (k + 1) = omega arith in rw e at (h (suc k) d (omega arith))

-- The first pair comes before all others.
Ascend-head : (p : Pair) (ps : List Pair) → Ascend (p ∷ ps) → (k : ℕ) (d : Pair) → k < length ps → ComesBefore p (get_or ps k d)
Ascend-head p ps h zero d below = h zero d (omega arith)
Ascend-head p ps h (suc k) d below =
    let e : suc k + 1 ≡ suc (suc k) = omega arith in
    before_trans p (get_or ps k d) (get_or ps (suc k) d) (Ascend-head p ps h k d (omega arith)) (rw e at (h (suc k) d (omega arith)))

abbrev Sub : List Pair → List Pair → Type 0
Sub ps qs = (k : ℕ) (d : Pair) → k < length ps → Contains qs (get_or ps k d)

-- an item of a list that begins with q is q, or it comes after it
first_or_after : (q : Pair) (qs : List Pair) (x : Pair) → Ascend (q ∷ qs) → Contains (q ∷ qs) x → (q ≡ x) ⊎ (ComesBefore q x × Contains qs x)
first_or_after q qs x h g = go g.0 g.1 g.2
  where
    go : (k : ℕ) → k < length (q ∷ qs) → get_or (q ∷ qs) k x ≡ x → (q ≡ x) ⊎ (ComesBefore q x × Contains qs x)
    go zero below is = inl is
    go (suc k) below is = inr (rw is at (Ascend-head q qs h k x (omega arith)), (k, omega arith, is))

same_first : (p q : Pair) (ps qs : List Pair) → Ascend (p ∷ ps) → Ascend (q ∷ qs) → Contains (q ∷ qs) p → Contains (p ∷ ps) q → p ≡ q
same_first p q ps qs f g a b =
    elim (first_or_after q qs p g a) [
      | inl e ↦ sym e
      | inr h ↦ elim (first_or_after p ps q f b) [
        | inl e ↦ e
        | inr k ↦ absurd (before_asym q p h.0 k.0)
      ]
    ]

Sub-tail : (p q : Pair) (ps qs : List Pair) → p ≡ q → Ascend (p ∷ ps) → Ascend (q ∷ qs) → Sub (p ∷ ps) (q ∷ qs) → Sub ps qs
Sub-tail p q ps qs e f g h k d below =
    elim (first_or_after q qs (get_or ps k d) g (h (suc k) d (omega arith))) [
      | inl is ↦ absurd (before_irrefl p (get_or ps k d) (e ∙ is) (Ascend-head p ps f k d below))
      | inr after ↦ after.1
    ]

same_lists_of : (ps qs : List Pair) → Ascend ps → Ascend qs → Sub ps qs → Sub qs ps → ps ≡ qs
same_lists_of [] [] f g a b = refl
same_lists_of [] (q ∷ qs) f g a b = let none = b zero q (omega arith) in absurd (omega (arith, none.1))
same_lists_of (p ∷ ps) [] f g a b = let none = a zero p (omega arith) in absurd (omega (arith, none.1))
same_lists_of (p ∷ ps) (q ∷ qs) f g a b =
    let first : p ≡ q = same_first p q ps qs f g (a zero p (omega arith)) (b zero q (omega arith)) in
    let rest : ps ≡ qs = same_lists_of ps qs (Ascend-tail p ps f) (Ascend-tail q qs g) (Sub-tail p q ps qs first f g a) (Sub-tail q p qs ps (sym first) g f b) in
    ap (λ x. x ∷ ps) first ∙ ap (λ xs. q ∷ xs) rest

abbrev pair_of : ℕ → ℕ → ℤ → ℤ → Pair
pair_of a b least greatest = record { from = a; to = b; min = least; max = greatest }

same_fields : (p q : Pair) → p.from ≡ q.from → p.to ≡ q.to → p.min ≡ q.min → p.max ≡ q.max → p ≡ q
same_fields p q a b c d =
    let e : pair_of p.from p.to p.min p.max ≡ pair_of q.from p.to p.min p.max = ap (λ (x : ℕ). pair_of x p.to p.min p.max) a in
    let f : pair_of q.from p.to p.min p.max ≡ pair_of q.from q.to p.min p.max = ap (λ (x : ℕ). pair_of q.from x p.min p.max) b in
    let g : pair_of q.from q.to p.min p.max ≡ pair_of q.from q.to q.min p.max = ap (λ (x : ℤ). pair_of q.from q.to x p.max) c in
    e ∙ f ∙ g ∙ ap (λ (x : ℤ). pair_of q.from q.to q.min x) d

-- two pairs of the same elements have the same extremes
same_extremes : (design : Design) (p q : Pair) → HasExtremes design p → HasExtremes design q → p.from ≡ q.from → p.to ≡ q.to → p ≡ q
same_extremes design p q h g from to =
    let of_p : (path : List ℕ) → IsPath design.arcs p.from path (input_of p.to) → IsPath design.arcs q.from path (input_of q.to) = λ path k. rw (← from, ← to) k in
    let of_q : (path : List ℕ) → IsPath design.arcs q.from path (input_of q.to) → IsPath design.arcs p.from path (input_of p.to) = λ path k. rw (from, to) k in
    let p_top = h.greatest.attained in
    let q_top = g.greatest.attained in
    let p_low = h.least.attained in
    let q_low = g.least.attained in
    let a = g.greatest.bound p_top.0 (of_p p_top.0 p_top.1) in
    let b = h.greatest.bound q_top.0 (of_q q_top.0 q_top.1) in
    let c = g.least.bound p_low.0 (of_p p_low.0 p_low.1) in
    let d = h.least.bound q_low.0 (of_q q_low.0 q_low.1) in
    let e = p_top.2 in
    let f = q_top.2 in
    let i = p_low.2 in
    let j = q_low.2 in
    same_fields p q from to (omega (arith, ints)) (omega (arith, ints))

all_found : (design : Design) (ps qs : List Pair) → ArePairs design ps → ArePairs design qs → Sub ps qs
all_found design ps qs h g k d below =
    let p : Pair = get_or ps k d in
    let extremes = h.each k d below in
    let path = extremes.greatest.attained in
    let found = g.whole p.from p.to path.0 extremes.from extremes.to path.1 in
    let at = found.1 in
    let found_has : HasExtremes design found.0 = rw at.2 at (g.each at.0 found.0 at.1) in
    let same : found.0 ≡ p = same_extremes design found.0 p found_has extremes found.2 found.3 in
    rw same at at

pub pairs_are_determined_lem : PairsAreDetermined
pairs_are_determined_lem design ps qs h g = same_lists_of ps qs h.ascending g.ascending (all_found design ps qs h g) (all_found design qs ps g h)
