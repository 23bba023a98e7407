-- What is first among places, one place more at a time.
use Rattle.std.proofs.Common.{◌≡◌, ℕ, zero, suc, ◌+◌, ◌-◌, ◌<◌, ◌≤◌, Bool, true, false, List, ◌∷◌, [], ◌++◌, refl, ap, ◌∙◌, sym, arith}
use Rattle.std.specs.Prelude.{find, Option, Some, None}
use Rattle.std.specs.Option.{option_or}
use Rattle.std.specs.List.{range_with_len}
use Rattle.mintcx_sdc.specs.Obstacles.{first_of}

-- places up to one
places_more : (a n : ℕ) → range_with_len a (suc n) ≡ range_with_len a n ++ (a + n) ∷ []
places_more a zero = let same : a ≡ a + 0 = omega arith in ap (λ (v : ℕ). v ∷ []) same
places_more a (suc n) =
    let same : a + 1 + n ≡ a + suc n = omega arith in
    ap (λ (v : List ℕ). a ∷ v) (places_more (a + 1) n ∙ ap (λ (v : ℕ). range_with_len (a + 1) n ++ v ∷ []) same)

pub next_place : (n : ℕ) → range_with_len 0 (n + 1) ≡ range_with_len 0 n ++ n ∷ []
next_place n =
    let same : n + 1 ≡ suc n = omega arith in
    let here : 0 + n ≡ n = omega arith in
    ap (range_with_len 0) same ∙ places_more 0 n ∙ ap (λ (v : ℕ). range_with_len 0 n ++ v ∷ []) here

-- places from one on
pub places_from : (i n : ℕ) → i < n → range_with_len i (n - i) ≡ i ∷ range_with_len (i + 1) (n - (i + 1))
places_from i n below = let more : n - i ≡ suc (n - (i + 1)) = omega arith in rw more refl

front_fails : (test : ℕ → Bool) (i : ℕ) (places : List ℕ) → test i ≡ false → find test (i ∷ places) ≡ find test places
front_fails test i places fails = rw fails refl

front_passes : (test : ℕ → Bool) (i : ℕ) (places : List ℕ) → test i ≡ true → find test (i ∷ places) ≡ Some i
front_passes test i places passes = rw passes refl

-- a place that fails is passed over
pub passed : (test : ℕ → Bool) (n i : ℕ) → i < n → test i ≡ false → find test (range_with_len i (n - i)) ≡ find test (range_with_len 0 n) →
    find test (range_with_len (i + 1) (n - (i + 1))) ≡ find test (range_with_len 0 n)
passed test n i below fails left =
    sym (ap (find test) (places_from i n below) ∙ front_fails test i (range_with_len (i + 1) (n - (i + 1))) fails) ∙ left

-- the first that passes is found
pub found : (test : ℕ → Bool) (n i : ℕ) → i < n → test i ≡ true → find test (range_with_len i (n - i)) ≡ find test (range_with_len 0 n) →
    find test (range_with_len 0 n) ≡ Some i
found test n i below passes left =
    sym left ∙ ap (find test) (places_from i n below) ∙ front_passes test i (range_with_len (i + 1) (n - (i + 1))) passes

-- none passes
pub none_left : (test : ℕ → Bool) (n i : ℕ) → n ≤ i → find test (range_with_len i (n - i)) ≡ find test (range_with_len 0 n) →
    find test (range_with_len 0 n) ≡ None
none_left test n i over left = let none : n - i ≡ 0 = omega arith in sym left ∙ ap (λ (v : ℕ). find test (range_with_len i v)) none

module _ {X : Type 0} (f : ℕ → Option X) where
  front_none : (i : ℕ) (places : List ℕ) → f i ≡ None → first_of f (i ∷ places) ≡ first_of f places
  front_none i places fails = ap (λ (v : Option X). option_or v (first_of f places)) fails

  front_some : (i : ℕ) (places : List ℕ) (x : X) → f i ≡ Some x → first_of f (i ∷ places) ≡ Some x
  front_some i places x is = ap (λ (v : Option X). option_or v (first_of f places)) is

  -- a place of which nothing comes
  pub first_passed : (n i : ℕ) → i < n → f i ≡ None → first_of f (range_with_len i (n - i)) ≡ first_of f (range_with_len 0 n) →
      first_of f (range_with_len (i + 1) (n - (i + 1))) ≡ first_of f (range_with_len 0 n)
  first_passed n i below fails left =
      sym (ap (first_of f) (places_from i n below) ∙ front_none i (range_with_len (i + 1) (n - (i + 1))) fails) ∙ left

  -- the first of which something comes
  pub first_found : (n i : ℕ) (x : X) → i < n → f i ≡ Some x → first_of f (range_with_len i (n - i)) ≡ first_of f (range_with_len 0 n) →
      first_of f (range_with_len 0 n) ≡ Some x
  first_found n i x below is left =
      sym left ∙ ap (first_of f) (places_from i n below) ∙ front_some i (range_with_len (i + 1) (n - (i + 1))) x is

  -- nothing comes of any
  pub first_none : (n i : ℕ) → n ≤ i → first_of f (range_with_len i (n - i)) ≡ first_of f (range_with_len 0 n) →
      first_of f (range_with_len 0 n) ≡ None
  first_none n i over left = let none : n - i ≡ 0 = omega arith in sym left ∙ ap (λ (v : ℕ). first_of f (range_with_len i v)) none
