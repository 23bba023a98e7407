-- The best of all short lists of numbers below a bound, by any order, of those that something decidable holds of.
use Rattle.std.proofs.Common.{◌≡◌, ℕ, zero, suc, ◌<◌, ◌≤◌, List, [], ◌∷◌, length, refl, sym, subst, ◌⊎◌, inl, inr, ⊎_elim, arith}
use Rattle.std.specs.List.{All}
use Rattle.std.proofs.lemmas.Bool.{cases_lt}
use Rattle.std.proofs.lemmas.List.Elements.{All-head, All-tail}

-- It holds, or it doesn't.
abbrev pub Decided : Type 0 → Type 0
Decided A = A ⊎ (A → ⊥)

pub moved : {A B : Type 0} → (A → B) → (B → A) → Decided A → Decided B
moved there back (inl a) = inl (there a)
moved there back (inr none) = inr (λ b. none (back b))

pub both : {A B : Type 0} → Decided A → Decided B → Decided (A × B)
both (inl a) (inl b) = inl (a, b)
both (inl a) (inr none) = inr (λ h. none h.1)
both (inr none) b = inr (λ h. none h.0)

-- A list of at most so many numbers, each below a bound.
abbrev pub IsShort : ℕ → ℕ → List ℕ → Type 0
IsShort bound most w = (length w ≤ most) × All (λ e. e < bound) w

-- a list that begins as f makes it of a short one
abbrev Begins : ℕ → (List ℕ → List ℕ) → ℕ → List ℕ → Type 0
Begins bound f most w = (v : List ℕ) × IsShort bound most v × (w ≡ f v)

-- The same, where the first number of the short one is below c.
abbrev BeginsBelow : ℕ → (List ℕ → List ℕ) → ℕ → ℕ → List ℕ → Type 0
BeginsBelow bound f most c w = (e : ℕ) × (v : List ℕ) × (e < c) × IsShort bound most v × (w ≡ f (e ∷ v))

first_or_more : (bound : ℕ) (f : List ℕ → List ℕ) (most : ℕ) (w v : List ℕ) → IsShort bound (suc most) v → w ≡ f v → (w ≡ f []) ⊎ BeginsBelow bound f most bound w
first_or_more bound f most w [] short is = inl is
first_or_more bound f most w (e ∷ v) short is =
    inr (e, v, All-head (λ e. e < bound) e v short.1, (omega (arith, short.0), All-tail (λ e. e < bound) e v short.1), is)

only_first : (bound : ℕ) (f : List ℕ → List ℕ) (w v : List ℕ) → IsShort bound zero v → w ≡ f v → (w ≡ f []) ⊎ ⊥
only_first bound f w [] short is = inl is
only_first bound f w (e ∷ v) short is = inr (omega (arith, short.0))

-- P holds of none of the lists of a set, or of one that none of them exceeds.
abbrev pub HasBest : (List ℕ → Type 0) → (List ℕ → List ℕ → Type 0) → (List ℕ → Type 0) → Type 0
HasBest P R D = ((w : List ℕ) → D w → P w → ⊥) ⊎ ((w : List ℕ) × P w × ((v : List ℕ) → D v → P v → R v w))

module _ (P : List ℕ → Type 0) (decide : (w : List ℕ) → Decided (P w)) (R : List ℕ → List ℕ → Type 0)
    (either : (v w : List ℕ) → R v w ⊎ R w v)
    (through : (u v w : List ℕ) → P u → P v → P w → R u v → R v w → R u w)
  where
    abbrev Has : (List ℕ → Type 0) → Type 0
    Has D = HasBest P R D

    itself : (w : List ℕ) → R w w
    itself w = ⊎_elim (λ (h : R w w). h) (λ (h : R w w). h) (either w w)

    single : (x : List ℕ) → Has (λ w. w ≡ x)
    single x =
        ⊎_elim
        (λ (h : P x). inr (x, h, λ v e p. subst (λ (u : List ℕ). R u x) (sym e) (itself x)))
        (λ (none : P x → ⊥). inl (λ w e p. none (subst P e p)))
        (decide x)

    none_of : Has (λ w. ⊥)
    none_of = inl (λ w h p. h)

    module _ (C D E : List ℕ → Type 0) (parts : (w : List ℕ) → E w → C w ⊎ D w) where
      greater : (b c : List ℕ) → P b → P c → ((v : List ℕ) → C v → P v → R v b) → ((v : List ℕ) → D v → P v → R v c) → R b c ⊎ R c b → Has E
      greater b c p q most more (inl less) =
          inr (c, q, λ v e h. ⊎_elim (λ (g : C v). through v b c h p q (most v g h) less) (λ (g : D v). more v g h) (parts v e))
      greater b c p q most more (inr less) =
          inr (b, p, λ v e h. ⊎_elim (λ (g : C v). most v g h) (λ (g : D v). through v c b h q p (more v g h) less) (parts v e))

      joined : Has C → Has D → Has E
      joined (inl none) (inl nothing) = inl (λ w e h. ⊎_elim (λ (g : C w). none w g h) (λ (g : D w). nothing w g h) (parts w e))
      joined (inl none) (inr (c, q, more)) = inr (c, q, λ v e h. ⊎_elim (λ (g : C v). absurd (none v g h)) (λ (g : D v). more v g h) (parts v e))
      joined (inr (b, p, most)) (inl nothing) = inr (b, p, λ v e h. ⊎_elim (λ (g : C v). most v g h) (λ (g : D v). absurd (nothing v g h)) (parts v e))
      joined (inr (b, p, most)) (inr (c, q, more)) = greater b c p q most more (either b c)

    module _ (bound : ℕ) where
      next_below : (f : List ℕ → List ℕ) (most c : ℕ) (w : List ℕ) → BeginsBelow bound f most (suc c) w → BeginsBelow bound f most c w ⊎ Begins bound (λ v. f (c ∷ v)) most w
      next_below f most c w (e, v, low, short, is) =
          ⊎_elim
          (λ (lower : e < c). inl (e, v, lower, short, is))
          (λ (past : c ≤ e). let same : e ≡ c = omega arith in inr (v, short, subst (λ (x : ℕ). w ≡ f (x ∷ v)) same is))
          (cases_lt e c)

      best_below : (f : List ℕ → List ℕ) (most : ℕ) → ((g : List ℕ → List ℕ) → Has (Begins bound g most)) → (c : ℕ) → Has (BeginsBelow bound f most c)
      best_below f most rest zero = inl (λ w h p. omega (arith, h.2))
      best_below f most rest (suc c) =
          joined (BeginsBelow bound f most c) (Begins bound (λ v. f (c ∷ v)) most) (BeginsBelow bound f most (suc c)) (next_below f most c)
          (best_below f most rest c) (rest (λ v. f (c ∷ v)))

      best_from : (most : ℕ) (f : List ℕ → List ℕ) → Has (Begins bound f most)
      best_from zero f =
          joined (λ w. w ≡ f []) (λ w. ⊥) (Begins bound f zero) (λ w h. only_first bound f w h.0 h.1 h.2) (single (f [])) none_of
      best_from (suc most) f =
          joined (λ w. w ≡ f []) (BeginsBelow bound f most bound) (Begins bound f (suc most)) (λ w h. first_or_more bound f most w h.0 h.1 h.2)
          (single (f [])) (best_below f most (best_from most) bound)

      of_short : (most : ℕ) → Has (Begins bound (λ v. v) most) → Has (IsShort bound most)
      of_short most (inl none) = inl (λ w short p. none w (w, short, refl) p)
      of_short most (inr (b, p, more)) = inr (b, p, λ v short q. more v (v, short, refl) q)

      -- the best of all short lists
      pub best : (most : ℕ) → Has (IsShort bound most)
      best most = of_short most (best_from most (λ v. v))
