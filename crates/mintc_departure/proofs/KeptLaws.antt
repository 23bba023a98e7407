-- checks of which none is failed
use Rattle.std.proofs.Common.{◌≡◌, ℕ, ◌+◌, ◌-◌, ◌<◌, ◌≤◌, ℤ, pos, ◌≤ℤ◌, ◌-ℤ◌, Bool, cond, List, [], ◌∷◌, ◌++◌, map, Option, Some, None, option_map, IfSome, IsTrue, ◌↔◌, arith, int_lt, refl, sym, ap, ◌∙◌, subst}
use Rattle.std.proofs.lemmas.Int.{ints}
use Rattle.std.proofs.lemmas.List.FromFn.{length-range_with_len, get_or-range_with_len}
use Rattle.std.specs.List.{All, cons_option, filter, filter_map, flat_map, range_with_len}
use Rattle.std.proofs.lemmas.List.Elements.{All-nil, All-cons, All-head, All-tail, filter-append}
use Rattle.mintc_timing.specs.declared.violation.Broken.{Broken}
use Rattle.mintc_timing.specs.declared.violation.Violation.{Violation}
use Rattle.mintc_timing.specs.Violations.{check, failed}
use Rattle.mintc_timing.proofs.SharedMembers.{All-range}

-- a number moved to the other side
pub moved : (x y : ℤ) → ((x -ℤ y) ≤ℤ pos 0) ↔ (x ≤ℤ y)
moved x y = ((λ h. omega (arith, ints)), (λ h. omega (arith, ints)))

abbrev pub IsKept : Violation → Type 0
IsKept v = v.amount ≤ℤ pos 0

nil-left : {X : Type 0} (xs ys : List X) → xs ++ ys ≡ [] → xs ≡ []
nil-left [] ys e = refl
nil-left (x ∷ xs) ys e = absurd (cc)

pub nil-right : {X : Type 0} (xs ys : List X) → xs ++ ys ≡ [] → ys ≡ []
nil-right [] ys e = e
nil-right (x ∷ xs) ys e = absurd (cc)

-- Checks of which none is failed: one more, two lists, one check for each item of a list, and the like.
pub kept-cons : (v : Violation) (vs : List Violation) → (failed (v ∷ vs) ≡ []) ↔ (IsKept v × (failed vs ≡ []))
kept-cons v vs = ((λ e. (grind (arith, ints), grind (arith, ints))), (λ k. grind (arith, ints)))

pub kept-append : (xs ys : List Violation) → (failed (xs ++ ys) ≡ []) ↔ ((failed xs ≡ []) × (failed ys ≡ []))
kept-append xs ys =
    let split = filter-append (λ v. int_lt (pos 0) v.amount) xs ys in
    ((λ e. (nil-left (failed xs) (failed ys) (sym split ∙ e), nil-right (failed xs) (failed ys) (sym split ∙ e))), (λ h. split ∙ ap (λ zs. zs ++ failed ys) h.0 ∙ h.1))

optional-step : (constraint : Broken) (o : Option ℤ) (vs : List Violation) → (failed (cons_option (option_map (check constraint) o) vs) ≡ []) ↔ (IfSome o (λ x. x ≤ℤ pos 0) × (failed vs ≡ []))
optional-step constraint None vs = ((λ e. (tt, e)), (λ h. h.1))
optional-step constraint (Some x) vs = kept-cons (check constraint x) vs

tested-step : {X : Type 0} (f : X → Violation) (x : X) (ys : List X) (b : Bool) → (failed (map f (cond b (x ∷ ys) ys)) ≡ []) ↔ ((IsTrue b → IsKept (f x)) × (failed (map f ys) ≡ []))
tested-step f x ys b = ((λ e. ((λ on. grind (arith, ints)), grind (arith, ints))), (λ h. let here = h.0 in grind (arith, ints)))

-- checks that are made item by item
module _ {X : Type 0} where
  kept-each : (checks : List X → List Violation) (P : X → Type 0) → checks [] ≡ [] → ((x : X) (xs : List X) → (failed (checks (x ∷ xs)) ≡ []) ↔ (P x × (failed (checks xs) ≡ []))) →
      (xs : List X) → (failed (checks xs) ≡ []) ↔ All P xs
  kept-each checks P none step [] = ((λ e. All-nil P), (λ h. ap failed none))
  kept-each checks P none step (x ∷ xs) =
      let first = step x xs in
      let rest = kept-each checks P none step xs in
      ((λ e. let h = first.0 e in All-cons P x xs h.0 (rest.0 h.1)), (λ h. first.1 (All-head P x xs h, rest.1 (All-tail P x xs h))))

  pub kept-map : (f : X → Violation) (xs : List X) → (failed (map f xs) ≡ []) ↔ All (λ x. IsKept (f x)) xs
  kept-map f = kept-each (map f) (λ x. IsKept (f x)) refl (λ x xs. kept-cons (f x) (map f xs))

  pub kept-flat : (g : X → List Violation) (xs : List X) → (failed (flat_map g xs) ≡ []) ↔ All (λ x. failed (g x) ≡ []) xs
  kept-flat g = kept-each (flat_map g) (λ x. failed (g x) ≡ []) refl (λ x xs. kept-append (g x) (flat_map g xs))

  pub kept-tested : (f : X → Violation) (test : X → Bool) (xs : List X) → (failed (map f (filter test xs)) ≡ []) ↔ All (λ x. IsTrue (test x) → IsKept (f x)) xs
  kept-tested f test = kept-each (λ xs. map f (filter test xs)) (λ x. IsTrue (test x) → IsKept (f x)) refl (λ x xs. tested-step f x (filter test xs) (test x))

  pub kept-optional : (constraint : X → Broken) (amount : X → Option ℤ) (xs : List X) →
      (failed (filter_map (λ x. option_map (check (constraint x)) (amount x)) xs) ≡ []) ↔ All (λ x. IfSome (amount x) (λ z. z ≤ℤ pos 0)) xs
  kept-optional constraint amount =
      kept-each (filter_map (λ x. option_map (check (constraint x)) (amount x))) (λ x. IfSome (amount x) (λ z. z ≤ℤ pos 0)) refl
      (λ x xs. optional-step (constraint x) (amount x) (filter_map (λ x. option_map (check (constraint x)) (amount x)) xs))

-- what holds of each number of a range
pub on_range : (P : ℕ → Type 0) (a n : ℕ) → All P (range_with_len a n) ↔ ((p : ℕ) → a ≤ p → p < a + n → P p)
on_range P a n = (
  (λ h p low high.
      let inside : p - a < n = omega arith in
      let is : a + (p - a) ≡ p = omega arith in
      subst P (get_or-range_with_len a n (p - a) 0 inside ∙ is) (h (p - a) 0 (rw (length-range_with_len a n) inside))),
  All-range P a n,
)
