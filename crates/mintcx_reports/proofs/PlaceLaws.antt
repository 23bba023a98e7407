-- The places of latches that borrow are those of elements.
use Rattle.std.proofs.Common.{◌≡◌, ℕ, zero, suc, ◌<◌, ◌≤◌, ◌+◌, ℤ, List, [], ◌∷◌, ◌++◌, length, map, take, get_or, arith, ap, ◌∙◌}
use Rattle.std.specs.Prelude.{All, filter}
use Rattle.std.specs.List.{range_with_len}
use Rattle.std.specs.List.Sorted.{IsPermutation}
use Rattle.std.proofs.lemmas.List.{map-append, take_more}
use Rattle.std.proofs.lemmas.List.Elements.{All-nil, All-cons, All-map, All-filter, filter-append}
use Rattle.std.proofs.lemmas.List.Sorted.{All-permutation}
use Rattle.mintc_timing.specs.Design.{Timing, element_count}
use Rattle.mintcx_reports.specs.Borrowers.{is_late, latches_of, may_borrow, place_of, places_of}

All-range : (Q : ℕ → Type 0) (a n : ℕ) → ((k : ℕ) → a ≤ k → k < a + n → Q k) → All Q (range_with_len a n)
All-range Q a zero each = All-nil Q
All-range Q a (suc n) each =
    All-cons Q a (range_with_len (a + 1) n) (each a (omega arith) (omega arith)) (All-range Q (a + 1) n (λ k low high. each k (omega arith) (omega arith)))

pub latches_inside : (t : Timing) → All (λ l. l < element_count t.flat) (latches_of t)
latches_inside t =
    All-filter (may_borrow t) (λ l. l < element_count t.flat) (range_with_len 0 (element_count t.flat))
    (All-range (λ l. l < element_count t.flat) 0 (element_count t.flat) (λ k low high. omega (arith, high)))

pub places_inside : (t : Timing) (d : List ℤ) (places : List (ℤ × ℕ)) → IsPermutation (places_of d (latches_of t)) places →
    All (λ (place : ℤ × ℕ). place.1 < element_count t.flat) places
places_inside t d places h =
    All-permutation (λ (p : ℤ × ℕ). p.1 < element_count t.flat) (places_of d (latches_of t)) places h
    (All-map (λ (p : ℤ × ℕ). p.1 < element_count t.flat) (place_of d) (filter (is_late d) (latches_of t))
    (All-filter (is_late d) (λ l. l < element_count t.flat) (latches_of t) (latches_inside t)))

-- a number more of a range
range_from : (a k : ℕ) → range_with_len a (suc k) ≡ range_with_len a k ++ (a + k) ∷ []
range_from a zero = ap (λ n. n ∷ []) (omega arith)
range_from a (suc k) = ap (λ xs. a ∷ xs) (range_from (a + 1) k ∙ ap (λ n. range_with_len (a + 1) k ++ n ∷ []) (omega arith))

pub range_more : (k : ℕ) → range_with_len 0 (k + 1) ≡ range_with_len 0 k ++ k ∷ []
range_more k =
    let more : k + 1 ≡ suc k = omega arith in
    let none : 0 + k ≡ k = omega arith in
    ap (λ n. range_with_len 0 n) more ∙ range_from 0 k ∙ ap (λ n. range_with_len 0 k ++ n ∷ []) none

-- the latches of one element more
pub latches_more : (t : Timing) (l : ℕ) →
    filter (may_borrow t) (range_with_len 0 (l + 1)) ≡ filter (may_borrow t) (range_with_len 0 l) ++ filter (may_borrow t) (l ∷ [])
latches_more t l = ap (filter (may_borrow t)) (range_more l) ∙ filter-append (may_borrow t) (range_with_len 0 l) (l ∷ [])

-- the places of one latch more
pub places_more : (d : List ℤ) (latches : List ℕ) (i : ℕ) → i < length latches →
    places_of d (take (i + 1) latches) ≡ places_of d (take i latches) ++ places_of d (get_or latches i 0 ∷ [])
places_more d latches i below =
    ap (places_of d) (take_more latches i 0 below) ∙ ap (map (place_of d)) (filter-append (is_late d) (take i latches) (get_or latches i 0 ∷ []))
    ∙ map-append (place_of d) (filter (is_late d) (take i latches)) (filter (is_late d) (get_or latches i 0 ∷ []))
