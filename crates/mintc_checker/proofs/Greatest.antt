-- The greatest time of trails, as trails are added.
use Rattle.std.proofs.Common.{◌≡◌, ℕ, ℤ, ◌+ℤ◌, ◌≤ℤ◌, List, arith, refl, ap, ◌∙◌, sym, ◌⊎◌, inl, inr, ⊎_elim, Option, Some, None, subst}
use Rattle.std.specs.Prelude.{IfSome, IsSomeAnd}
use Rattle.std.specs.Int.{int_max}
use Rattle.std.proofs.lemmas.Int.{ints, clamps, by_lt_z}
use Rattle.mintc_lanes.specs.Lanes.{joined}
use Rattle.mintc_checker.specs.Trails.{IsGreatestTime}

one_of : (x y : ℤ) → (int_max x y ≡ x) ⊎ (int_max x y ≡ y)
one_of x y = by_lt_z x y (λ h. inr (omega (arith, ints, clamps))) (λ h. inl (omega (arith, ints, clamps)))

abbrev Attains : (ℕ → List ℕ → Type 0) → (ℕ → List ℕ → ℤ) → ℤ → Type 0
Attains IsTrail time z = (j : ℕ) × (path : List ℕ) × IsTrail j path × (time j path ≡ z)

-- where one trail is
pub greatest_of_one : (IsTrail : ℕ → List ℕ → Type 0) (time : ℕ → List ℕ → ℤ) (i : ℕ) (p : List ℕ) (z : ℤ) → IsTrail i p → time i p ≡ z →
    ((j : ℕ) (path : List ℕ) → IsTrail j path → time j path ≡ z) → IsGreatestTime IsTrail time (Some z)
greatest_of_one IsTrail time i p z h e only = record {
  attained = (i, p, h, e);
  bound = λ j path g. let is = only j path g in omega (arith, ints);
}

-- where no trail is
pub greatest_of_none : (IsTrail : ℕ → List ℕ → Type 0) (time : ℕ → List ℕ → ℤ) → ((j : ℕ) (path : List ℕ) → IsTrail j path → ⊥) → IsGreatestTime IsTrail time None
greatest_of_none IsTrail time none = record { attained = tt; bound = λ j path g. absurd (none j path g) }

-- the same trails and times, said otherwise
module _ (A B : ℕ → List ℕ → Type 0) (f g : ℕ → List ℕ → ℤ)
    (there : (j : ℕ) (path : List ℕ) → A j path → B j path × (g j path ≡ f j path))
    (back : (j : ℕ) (path : List ℕ) → B j path → A j path) where
  attained_alike : (best : Option ℤ) → IfSome best (Attains A f) → IfSome best (Attains B g)
  attained_alike None h = tt
  attained_alike (Some z) h = let k = there h.0 h.1 h.2 in (h.0, h.1, k.0, k.1 ∙ h.3)

  bound_alike : (best : Option ℤ) (x y : ℤ) → x ≡ y → IsSomeAnd best (λ z. y ≤ℤ z) → IsSomeAnd best (λ z. x ≤ℤ z)
  bound_alike best x y e h = subst (λ v. IsSomeAnd best (λ z. v ≤ℤ z)) (sym e) h

  pub greatest_alike : (best : Option ℤ) → IsGreatestTime A f best → IsGreatestTime B g best
  greatest_alike best h = record {
    attained = attained_alike best h.attained;
    bound = λ j path k. let a = back j path k in bound_alike best (g j path) (f j path) (there j path a).1 (h.bound j path a);
  }

-- the same trails, said otherwise
pub greatest_same : (A B : ℕ → List ℕ → Type 0) (f : ℕ → List ℕ → ℤ) → ((j : ℕ) (path : List ℕ) → A j path → B j path) → ((j : ℕ) (path : List ℕ) → B j path → A j path) →
    (best : Option ℤ) → IsGreatestTime A f best → IsGreatestTime B f best
greatest_same A B f there back = greatest_alike A B f f (λ j path h. (there j path h, refl)) back

-- Trails that are of one kind, or go on from trails of another one and so take longer.
module _ (A B C : ℕ → List ℕ → Type 0) (f g h : ℕ → List ℕ → ℤ) (w : ℤ)
    (kept : (j : ℕ) (path : List ℕ) → A j path → C j path × (h j path ≡ f j path))
    (longer : (j : ℕ) (path : List ℕ) → B j path → (after : List ℕ) × C j after × (h j after ≡ g j path +ℤ w))
    (split : (j : ℕ) (path : List ℕ) → C j path → (A j path × (h j path ≡ f j path)) ⊎ ((before : List ℕ) × B j before × (h j path ≡ g j before +ℤ w))) where
  kept_attains : (z : ℤ) → Attains A f z → Attains C h z
  kept_attains z a = let k = kept a.0 a.1 a.2 in (a.0, a.1, k.0, k.1 ∙ a.3)

  longer_attains : (z : ℤ) → Attains B g z → Attains C h (z +ℤ w)
  longer_attains z a = let k = longer a.0 a.1 a.2 in (a.0, k.0, k.1, k.2 ∙ ap (λ v. v +ℤ w) a.3)

  same_attains : (x y : ℤ) → x ≡ y → Attains C h x → Attains C h y
  same_attains x y e a = (a.0, a.1, a.2, a.3 ∙ e)

  attained_joined : (x y : Option ℤ) → IfSome x (Attains A f) → IfSome y (Attains B g) → IfSome (joined int_max x y w) (Attains C h)
  attained_joined None None a b = tt
  attained_joined (Some x) None a b = kept_attains x a
  attained_joined None (Some y) a b = longer_attains y b
  attained_joined (Some x) (Some y) a b =
      ⊎_elim (λ (e : int_max x (y +ℤ w) ≡ x). same_attains x (int_max x (y +ℤ w)) (sym e) (kept_attains x a))
      (λ (e : int_max x (y +ℤ w) ≡ y +ℤ w). same_attains (y +ℤ w) (int_max x (y +ℤ w)) (sym e) (longer_attains y b))
      (one_of x (y +ℤ w))

  old_bound : (s v : ℤ) (x y : Option ℤ) → v ≡ s → IsSomeAnd x (λ z. s ≤ℤ z) → IsSomeAnd (joined int_max x y w) (λ z. v ≤ℤ z)
  old_bound s v x y e k = grind (arith, ints, clamps)

  new_bound : (s v : ℤ) (x y : Option ℤ) → v ≡ s +ℤ w → IsSomeAnd y (λ z. s ≤ℤ z) → IsSomeAnd (joined int_max x y w) (λ z. v ≤ℤ z)
  new_bound s v x y e k = grind (arith, ints, clamps)

  pub greatest_joined : (x y : Option ℤ) → IsGreatestTime A f x → IsGreatestTime B g y → IsGreatestTime C h (joined int_max x y w)
  greatest_joined x y a b = record {
    attained = attained_joined x y a.attained b.attained;
    bound = λ j path k. ⊎_elim
        (λ old. old_bound (f j path) (h j path) x y old.1 (a.bound j path old.0))
        (λ new. new_bound (g j new.0) (h j path) x y new.2 (b.bound j new.0 new.1))
        (split j path k);
  }
