-- A walk that meets a node twice holds a shorter one, or a chain.
use Rattle.std.proofs.Common.{◌≡◌, ◌⊎◌, ℕ, zero, suc, ℤ, pos, true, false, ◌+◌, ◌*◌, ◌+ℤ◌, ◌≤ℤ◌, ◌<◌, ◌≤◌, List, [], ◌∷◌, ◌++◌, length, eqb, ⊎_elim, inl, inr, refl, ap, arith}
use Rattle.std.proofs.lemmas.Int.{ints}
use Rattle.std.proofs.lemmas.Bool.{cases_eq, ne_eqb}
use Rattle.std.proofs.lemmas.Map.Steps.{length-le_from_distinct_below}
use Rattle.std.proofs.Math.Nat.{mul-le-mul_right}
use Rattle.std.specs.List.{IsDistinct, AllByRecursion, list_any}
use Rattle.mintc_graph_walks.specs.declared.network.Arc.{Arc}
use Rattle.mintc_graph_walks.specs.Walks.{arc_at, value_at, IsStart, Leads, weight_of}
use Rattle.mintc_graph_walks.specs.Bounds.{IsWithin, AreBounded}
use Rattle.mintc_graph_walks.specs.Rises.{Walk}
use Rattle.mintc_graph_walks.proofs.Pushing.{Leads-push, weight_of-push}

abbrev pub Among : ℕ → List ℕ → Type 0
Among t [] = ⊥
Among t (x ∷ xs) = (t ≡ x) ⊎ Among t xs

abbrev pub Apart : List ℕ → Type 0
Apart [] = Unit {0}
Apart (x ∷ xs) = (Among x xs → ⊥) × Apart xs

abbrev pub Below : ℕ → List ℕ → Type 0
Below n [] = Unit {0}
Below n (x ∷ xs) = (x < n) × Below n xs

dec_among : (t : ℕ) (xs : List ℕ) → Among t xs ⊎ (Among t xs → ⊥)
dec_among t [] = inr (λ h. h)
dec_among t (x ∷ xs) =
    ⊎_elim
    (λ e. inl (inl e))
    (λ e. ⊎_elim (λ m. inl (inr m)) (λ m. inr (λ h. ⊎_elim e m h)) (dec_among t xs))
    (cases_eq t x)

none_equal : (x : ℕ) (xs : List ℕ) → (Among x xs → ⊥) → AllByRecursion (λ y. eqb x y ≡ false) xs
none_equal x [] h = tt
none_equal x (y ∷ xs) h = (ne_eqb x y (λ e. h (inl e)), none_equal x xs (λ m. h (inr m)))

IsDistinct-from_apart : (xs : List ℕ) → Apart xs → IsDistinct eqb xs
unfolding IsDistinct
IsDistinct-from_apart [] h = tt
IsDistinct-from_apart (x ∷ xs) h = (none_equal x xs h.0, IsDistinct-from_apart xs h.1)

below_any : (n q : ℕ) (xs : List ℕ) → Below n xs → list_any (eqb q) xs ≡ true → q < n
below_any n q [] h a = absurd (cc)
below_any n q (x ∷ xs) h a = ⊎_elim (λ e. rw e h.0) (λ e. below_any n q xs h.1 (rw (ne_eqb q x e) at a)) (cases_eq q x)

-- numbers below n that are apart are at most n
few_apart : (n : ℕ) (xs : List ℕ) → Apart xs → Below n xs → length xs ≤ n
few_apart n xs a b = length-le_from_distinct_below xs n (IsDistinct-from_apart xs a) (λ q h. below_any n q xs b h)

module _ (arcs : List Arc) (starts : List ℤ) where
  -- a walk with its arcs, the last one first
  abbrev pub Path : List ℕ → ℕ → ℤ → Type 0
  Path [] v x = IsStart starts v × (value_at starts v ≡ x)
  Path (e ∷ rs) v x = (y : ℤ) × (e < length arcs) × Path rs (arc_at arcs e).from y × ((arc_at arcs e).to ≡ v) × (y +ℤ (arc_at arcs e).weight ≡ x)

  abbrev pub nodes : List ℕ → ℕ → List ℕ
  nodes [] v = v ∷ []
  nodes (e ∷ rs) v = v ∷ nodes rs (arc_at arcs e).from

  length-nodes : (rs : List ℕ) (v : ℕ) → length (nodes rs v) ≡ suc (length rs)
  length-nodes [] v = refl
  length-nodes (e ∷ rs) v = ap suc (length-nodes rs (arc_at arcs e).from)

  -- a path goes through a node: what it has up to there, and the arcs that lead on
  cut : (rs : List ℕ) (v t : ℕ) (x : ℤ) → Path rs v x → Apart (nodes rs v) → Among t (nodes rs v) → (rs' : List ℕ) × (x' : ℤ) × (cs : List ℕ) × Path rs' t x' × Apart (nodes rs' t) × Leads arcs t cs v × (x' +ℤ weight_of arcs cs ≡ x)
  cut [] v t x p a m = ⊎_elim (λ e. ([], x, [], rw e p, (λ h. h, tt), e, omega (arith, ints))) (λ h. absurd h) m
  cut (e ∷ rs) v t x p a m =
      ⊎_elim
      (λ q. (e ∷ rs, x, [], rw q p, rw q a, q, omega (arith, ints)))
      (λ q.
      let c = cut rs (arc_at arcs e).from t p.0 p.2 a.1 q in
      let w = weight_of-push arcs c.2 e in
      let s = c.6 in
      let l = p.4 in
      (c.0, c.1, c.2 ++ e ∷ [], c.3, c.4, Leads-push arcs t c.2 e v c.5 p.1 p.3, omega (arith, ints)))
      m

  Path-below : (n : ℕ) → length starts ≡ n → ((e : ℕ) → e < length arcs → ((arc_at arcs e).to < n)) → (rs : List ℕ) (v : ℕ) (x : ℤ) → Path rs v x → Below n (nodes rs v)
  Path-below n l ends [] v x p = (rw (← l) p.0.0, tt)
  Path-below n l ends (e ∷ rs) v x p = (rw (← p.3) (ends e p.1), Path-below n l ends rs (arc_at arcs e).from p.0 p.2)

  -- the values of a path
  Path-within : (s w : ℕ) → AreBounded s starts → ((e : ℕ) → e < length arcs → IsWithin w (arc_at arcs e).weight) → (rs : List ℕ) (v : ℕ) (x : ℤ) → Path rs v x → IsWithin (s + length rs * w) x
  Path-within s w low small [] v x p = let b = (low v p.0.0).1 p.0.1 in let b0 = b.0 in let b1 = b.1 in let q = p.1 in (omega (arith, ints), omega (arith, ints))
  Path-within s w low small (e ∷ rs) v x p =
      let i = Path-within s w low small rs (arc_at arcs e).from p.0 p.2 in
      let i0 = i.0 in
      let i1 = i.1 in
      let f = small e p.1 in
      let f0 = f.0 in
      let f1 = f.1 in
      let q = p.4 in
      let m : suc (length rs) * w ≡ length rs * w + w = omega arith in
      (omega (arith, ints), omega (arith, ints))

  pub walk_of_path : (rs : List ℕ) (v : ℕ) (x : ℤ) → Path rs v x → Walk arcs starts (length rs) v x
  walk_of_path [] v x p = p
  walk_of_path (e ∷ rs) v x p = (e, p.0, p.1, walk_of_path rs (arc_at arcs e).from p.0 p.2, p.3, p.4)

  -- where no closed chain has a positive weight, some path with no node twice has as much as a walk
  pub shorten : (Reached : ℕ → Type 0) → ((k v : ℕ) (x : ℤ) → Walk arcs starts k v x → Reached v) → ((v : ℕ) (es : List ℕ) → Reached v → Leads arcs v es v → weight_of arcs es ≤ℤ pos 0) →
      (k v : ℕ) (x : ℤ) → Walk arcs starts k v x → (rs : List ℕ) × (y : ℤ) × Path rs v y × Apart (nodes rs v) × (x ≤ℤ y)
  shorten Reached get none zero v x w = ([], x, w, (λ h. h, tt), omega (arith, ints))
  shorten Reached get none (suc k) v x w =
      let e = w.0 in
      let i = shorten Reached get none k (arc_at arcs e).from w.1 w.3 in
      let le = i.4 in
      let sums = w.5 in
      ⊎_elim
      (λ m.
      let c = cut i.0 (arc_at arcs e).from v i.1 i.2 i.3 m in
      let n = none v (c.2 ++ e ∷ []) (get (suc k) v x w) (Leads-push arcs v c.2 e v c.5 w.2 w.4) in
      let p = weight_of-push arcs c.2 e in
      let s = c.6 in
      (c.0, c.1, c.3, c.4, omega (arith, ints)))
      (λ m. (e ∷ i.0, i.1 +ℤ (arc_at arcs e).weight, (i.1, w.2, i.2, w.4, refl), (m, i.3), omega (arith, ints)))
      (dec_among v (nodes i.0 (arc_at arcs e).from))

  pub short_within : (n s w : ℕ) → length starts ≡ n → ((e : ℕ) → e < length arcs → ((arc_at arcs e).to < n)) → AreBounded s starts → ((e : ℕ) → e < length arcs → IsWithin w (arc_at arcs e).weight) →
      (rs : List ℕ) (v : ℕ) (x : ℤ) → Path rs v x → Apart (nodes rs v) → IsWithin (s + n * w) x
  short_within n s w l ends low small rs v x p a =
      let few = few_apart n (nodes rs v) a (Path-below n l ends rs v x p) in
      let len = length-nodes rs v in
      let b = Path-within s w low small rs v x p in
      let b0 = b.0 in
      let b1 = b.1 in
      let m : length rs * w ≤ n * w = mul-le-mul_right w (omega arith) in
      (omega (arith, ints), omega (arith, ints))
