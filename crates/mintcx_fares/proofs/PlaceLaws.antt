-- Places, element by element.
use Rattle.std.proofs.Common.{◌≡◌, ℕ, zero, suc, ◌+◌, ℤ, List, [], ◌∷◌, ◌++◌, Option, Some, None, length, min, take, arith, ap, ◌∙◌, sym, subst}
use Rattle.std.specs.Prelude.{All, flat_map, IfSome}
use Rattle.std.specs.List.{range_with_len}
use Rattle.std.proofs.lemmas.List.{append-nil, flat_map_more, take_min}
use Rattle.std.proofs.lemmas.List.Elements.{All-push}
use Rattle.mintc_timing.specs.Design.{Design}
use Rattle.mintcx_fares.specs.Places.{place_list, IsPlace}

numbers_from : (a n : ℕ) → range_with_len a (suc n) ≡ range_with_len a n ++ (a + n) ∷ []
numbers_from a zero = ap (λ (v : ℕ). v ∷ []) (omega arith)
numbers_from a (suc n) = ap (λ (v : List ℕ). a ∷ v) (numbers_from (a + 1) n ∙ ap (λ (v : ℕ). range_with_len (a + 1) n ++ v ∷ []) (omega arith))

next_number : (n : ℕ) → range_with_len 0 (n + 1) ≡ range_with_len 0 n ++ n ∷ []
next_number n =
    let more : n + 1 ≡ suc n = omega arith in
    let none : 0 + n ≡ n = omega arith in
    ap (λ (v : ℕ). range_with_len 0 v) more ∙ numbers_from 0 n ∙ ap (λ (v : ℕ). range_with_len 0 n ++ v ∷ []) none

-- the places of one element more
pub places_more : {X : Type 0} (f : ℕ → List X) (before after : List X) (n : ℕ) → before ≡ flat_map f (range_with_len 0 n) → after ≡ before ++ f n →
    after ≡ flat_map f (range_with_len 0 (n + 1))
places_more f before after n so more =
    more ∙ ap (λ v. v ++ f n) so ∙ flat_map_more f [] (range_with_len 0 n) n ∙ ap (λ (v : List ℕ). flat_map f v) (sym (next_number n))

-- one place more, or none
pub each_place : (design : Design) (old : List (ℕ × ℕ × ℤ × ℕ)) (place : Option (ℕ × ℕ × ℤ × ℕ)) → All (IsPlace design) old → IfSome place (IsPlace design) →
    All (IsPlace design) (old ++ place_list place)
each_place design old (Some place) each one = All-push (IsPlace design) old place each one
each_place design old None each one = subst (λ (v : List (ℕ × ℕ × ℤ × ℕ)). All (IsPlace design) v) (sym (append-nil old)) each

-- the first six places, or all where these are fewer
pub first_six : {X : Type 0} (xs : List X) → take (min (length xs) 6) xs ≡ take 6 xs
first_six xs =
    let same : min (length xs) 6 ≡ min 6 (length xs) = omega arith in
    ap (λ (n : ℕ). take n xs) same ∙ take_min 6 xs
