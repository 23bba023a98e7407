-- least numbers: one more, which item has them, and of greater ones
use Rattle.std.proofs.Common.{◌≡◌, ℕ, suc, ◌<◌, ℤ, ◌≤ℤ◌, Bool, true, false, cond, List, [], ◌∷◌, ◌++◌, length, get_or, map, arith, refl, ap, ◌∙◌, Option, Some, None, ◌⊎◌, inl, inr, ⊎_elim}
use Rattle.std.proofs.lemmas.Int.{ints, clamps, by_lt_z}
use Rattle.std.specs.List.{filter}
use Rattle.std.specs.Int.{int_min}
use Rattle.mintc_timing.specs.Extremes.{lesser_of, least_of, greater_of}
use Rattle.mintc_departure.specs.declared.arrivals.TheConstants.{NEVER}
use Rattle.mintc_departure.specs.Rounds.{IsArrivalSum, IsFirst}

-- one more number at the end
pub least_of-push : (xs : List ℤ) (y : ℤ) → least_of (xs ++ y ∷ []) ≡ Some (lesser_of y (least_of xs))
least_of-push [] y = refl
least_of-push (x ∷ xs) y = ap (λ o. Some (lesser_of x o)) (least_of-push xs y) ∙ ap Some (turn x y (least_of xs))
  where
    turn : (x y : ℤ) (o : Option ℤ) → int_min x (lesser_of y o) ≡ int_min y (lesser_of x o)
    turn x y o = grind (arith, ints, clamps)

min_is : (x y : ℤ) → (int_min x y ≡ x) ⊎ (int_min x y ≡ y)
min_is x y = by_lt_z x y (λ h. inl (omega (arith, ints, clamps))) (λ h. inr (omega (arith, ints, clamps)))

-- whether no number is there, or one that is at most another
abbrev pub IsNoLater : Option ℤ → Option ℤ → Type 0
IsNoLater None None = Unit {0}
IsNoLater None (Some y) = ⊥
IsNoLater (Some x) None = ⊥
IsNoLater (Some x) (Some y) = x ≤ℤ y

lesser-mono : (x y : ℤ) (o p : Option ℤ) → x ≤ℤ y → IsNoLater o p → lesser_of x o ≤ℤ lesser_of y p
lesser-mono x y o p h k = grind (arith, ints, clamps)

pub greater-mono : (b : ℤ) (o p : Option ℤ) → IsNoLater o p → greater_of b o ≤ℤ greater_of b p
greater-mono b o p k = grind (arith, ints, clamps)

pub greater-from : (b : ℤ) (o : Option ℤ) → b ≤ℤ greater_of b o
greater-from b o = grind (arith, ints, clamps)

module _ {X : Type 0} where
  -- the least of greater numbers is no less
  pub least-mono : (f g : X → ℤ) → ((x : X) → f x ≤ℤ g x) → (xs : List X) → IsNoLater (least_of (map f xs)) (least_of (map g xs))
  least-mono f g h [] = tt
  least-mono f g h (x ∷ xs) = lesser-mono (f x) (g x) (least_of (map f xs)) (least_of (map g xs)) (h x) (least-mono f g h xs)

module _ {X : Type 0} (f : X → ℤ) (test : X → Bool) (d : X) where
  abbrev IsSome : List X → Option ℤ → Type 0
  IsSome xs o = (o ≡ None) ⊎ ((n : ℕ) × (n < length xs) × (test (get_or xs n d) ≡ true) × (o ≡ Some (f (get_or xs n d))))

  some-later : (x : X) (xs : List X) (o : Option ℤ) → IsSome xs o → IsSome (x ∷ xs) o
  some-later x xs o (inl e) = inl e
  some-later x xs o (inr w) = inr (suc w.0, omega arith, w.2, w.3)

  some-here : (x : X) (xs : List X) (o : Option ℤ) → test x ≡ true → IsSome xs o → IsSome (x ∷ xs) (Some (lesser_of (f x) o))
  some-here x xs o e (inl none) = inr (0, omega arith, e, ap (λ p. Some (lesser_of (f x) p)) none)
  some-here x xs o e (inr w) =
      ⊎_elim
      (λ first. inr (0, omega arith, e, ap (λ p. Some (lesser_of (f x) p)) w.3 ∙ ap Some first))
      (λ later. inr (suc w.0, omega arith, w.2, ap (λ p. Some (lesser_of (f x) p)) w.3 ∙ ap Some later))
      (min_is (f x) (f (get_or xs w.0 d)))

  some-step : (x : X) (xs : List X) (b : Bool) → test x ≡ b → IsSome xs (least_of (map f (filter test xs))) → IsSome (x ∷ xs) (least_of (map f (cond b (x ∷ filter test xs) (filter test xs))))
  some-step x xs true e h = some-here x xs _ e h
  some-step x xs false e h = some-later x xs _ h

  -- the least is that of some item, if any passes
  pub least-some : (xs : List X) → IsSome xs (least_of (map f (filter test xs)))
  least-some [] = inl refl
  least-some (x ∷ xs) = some-step x xs (test x) refl (least-some xs)

  -- so what is at least b is b, or that of some item
  pub greater-some : (b : ℤ) (xs : List X) → (greater_of b (least_of (map f (filter test xs))) ≡ b)
      ⊎ ((n : ℕ) × (n < length xs) × (test (get_or xs n d) ≡ true) × (greater_of b (least_of (map f (filter test xs))) ≡ f (get_or xs n d)))
  greater-some b xs = ⊎_elim
      (λ none. inl (rw none refl))
      (λ w. rw w.3 (by_lt_z b (f (get_or xs w.0 d)) (λ h. inr (w.0, w.1, w.2, omega (arith, ints, clamps))) (λ h. inl (omega (arith, ints, clamps)))))
      (least-some xs)

-- an arrival more
pub first-more : (o : Option ℤ) (v y : ℤ) → IsArrivalSum y → IsFirst o v → IsFirst (Some (lesser_of y o)) (int_min y v)
first-more o v y r is = (grind (arith, ints, clamps), (grind (arith, ints, clamps), grind (arith, ints, clamps)))

-- what is found where a number stands for it
pub first-some : (o : Option ℤ) (first : ℤ) → IsFirst o first → (first ≡ NEVER → ⊥) → o ≡ Some first
first-some o first is ne = grind arith
