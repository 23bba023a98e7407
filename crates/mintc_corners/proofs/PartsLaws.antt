-- What two timings side by side have: elements, pairs, and what these ask of the clock.
use Rattle.std.proofs.Common.{◌≡◌, ℕ, ◌<◌, ◌≤◌, ◌+◌, ◌-◌, ◌==◌, ◌&&◌, ◌||◌, not, ℤ, pos, Bool, true, List, [], ◌∷◌, ◌++◌, length, map, arith, refl, ap, ◌∙◌, sym, subst, ◌⊎◌, ⊎_elim, length-append, Option, Some, None}
use Rattle.std.proofs.Math.ListN.{get_or-append}
use Rattle.std.proofs.lemmas.Bool.{cases_lt, or_cases, or_left, or_right}
use Rattle.std.proofs.lemmas.Int.{ints, clamps}
use Rattle.std.proofs.lemmas.List.{get_or-append-add, get_or-map, map-append}
use Rattle.std.proofs.lemmas.List.Elements.{All-head, All-tail, filter-append}
use Rattle.std.proofs.lemmas.List.Folds.{list_any-append}
use Rattle.std.specs.List.{All, filter, list_any}
use Rattle.std.specs.Int.{int_max}
use Rattle.mintc_timing.specs.declared.parts.Element.{Element}
use Rattle.mintc_timing.specs.declared.parts.Pair.{Pair}
use Rattle.mintc_timing.specs.Clocking.{feeds_of, is_pair_between, least_width}
use Rattle.mintc_timing.specs.Design.{Timing, element_at, element_count, no_element, no_pair, pair_at}
use Rattle.mintc_timing.specs.Extremes.{greater_of, greatest_of}
use Rattle.mintc_timing.specs.Paths.{HasEnds}
use Rattle.mintc_corners.specs.Joint.{beside, shifted_pair}

-- the greatest of 0 and numbers
top-nil : (o : Option ℤ) → greater_of (pos 0) o ≡ int_max (pos 0) (greater_of (pos 0) o)
top-nil None = omega (arith, ints, clamps)
top-nil (Some y) = omega (arith, ints, clamps)

top-cons : (x : ℤ) (o : Option ℤ) → int_max (pos 0) (greater_of x o) ≡ int_max x (greater_of (pos 0) o)
top-cons x None = omega (arith, ints, clamps)
top-cons x (Some y) = omega (arith, ints, clamps)

top-append : (xs ys : List ℤ) → greater_of (pos 0) (greatest_of (xs ++ ys)) ≡ int_max (greater_of (pos 0) (greatest_of xs)) (greater_of (pos 0) (greatest_of ys))
top-append [] ys = top-nil (greatest_of ys)
top-append (x ∷ xs) ys =
    let rest = top-append xs ys in
    let a = top-cons x (greatest_of (xs ++ ys)) in
    let b = top-cons x (greatest_of xs) in
    omega (arith, ints, clamps)

module _ (t u : Timing) where
  abbrev n : ℕ
  n = element_count t.flat

  abbrev b : Timing
  b = beside t u

  pub element_beside_left : (l : ℕ) → l < n → element_at b.flat l ≡ element_at t.flat l
  element_beside_left l h = get_or-append t.flat.elements u.flat.elements no_element l h

  pub element_beside_right : (l : ℕ) → element_at b.flat (n + l) ≡ element_at u.flat l
  element_beside_right l = get_or-append-add t.flat.elements u.flat.elements l no_element

  pub pair_beside_left : (m : ℕ) → m < length t.pairs → pair_at b m ≡ pair_at t m
  pair_beside_left m h = get_or-append t.pairs (map (shifted_pair n) u.pairs) no_pair m h

  pub pair_beside_right : (m : ℕ) → m < length u.pairs → pair_at b (length t.pairs + m) ≡ shifted_pair n (pair_at u m)
  pair_beside_right m h = get_or-append-add t.pairs (map (shifted_pair n) u.pairs) m no_pair ∙ get_or-map (shifted_pair n) u.pairs m no_pair no_pair h

  pub width_beside : (p : ℕ) → least_width b.flat p ≡ int_max (least_width t.flat p) (least_width u.flat p)
  width_beside p =
      let in_phase = filter (λ (x : Element). x.phase == p) in
      rw (filter-append (λ (x : Element). x.phase == p) t.flat.elements u.flat.elements, map-append (λ (x : Element). x.width) (in_phase t.flat.elements) (in_phase u.flat.elements))
      (top-append (map (λ (x : Element). x.width) (in_phase t.flat.elements)) (map (λ (x : Element). x.width) (in_phase u.flat.elements)))

  -- what holds of each element of the one and of the other, holds of each
  pub each-element : (P : ℕ → Type 0) → ((l : ℕ) → l < n → P l) → ((l : ℕ) → l < element_count u.flat → P (n + l)) → (l : ℕ) → l < element_count b.flat → P l
  each-element P left right l h = ⊎_elim (λ (low : l < n). left l low)
      (λ (high : n ≤ l).
      let all = length-append t.flat.elements u.flat.elements in
      let is : n + (l - n) ≡ l = omega arith in
      subst P is (right (l - n) (omega arith)))
      (cases_lt l n)

  module _ (ends : HasEnds t) where
    abbrev HasEnd : Pair → Type 0
    HasEnd p = (p.from < n) × (p.to < n)

    abbrev feeds : ℕ → ℕ → Element → Element → Bool
    feeds i j x y = (x.phase == i) && (y.phase == j) && not y.flop

    between-left : (i j : ℕ) (p : Pair) → HasEnd p → is_pair_between b.flat i j p ≡ is_pair_between t.flat i j p
    between-left i j p h =
        ap (λ (x : Element). feeds i j x (element_at b.flat p.to)) (element_beside_left p.from h.0) ∙ ap (λ (y : Element). feeds i j (element_at t.flat p.from) y) (element_beside_left p.to h.1)

    between-right : (i j : ℕ) (q : Pair) → is_pair_between b.flat i j (shifted_pair n q) ≡ is_pair_between u.flat i j q
    between-right i j q =
        ap (λ (x : Element). feeds i j x (element_at b.flat (n + q.to))) (element_beside_right q.from) ∙ ap (λ (y : Element). feeds i j (element_at u.flat q.from) y) (element_beside_right q.to)

    any-left : (i j : ℕ) (ps : List Pair) → All HasEnd ps → list_any (is_pair_between b.flat i j) ps ≡ list_any (is_pair_between t.flat i j) ps
    any-left i j [] h = refl
    any-left i j (p ∷ ps) h = rw (between-left i j p (All-head HasEnd p ps h), any-left i j ps (All-tail HasEnd p ps h)) refl

    any-right : (i j : ℕ) (qs : List Pair) → list_any (is_pair_between b.flat i j) (map (shifted_pair n) qs) ≡ list_any (is_pair_between u.flat i j) qs
    any-right i j [] = refl
    any-right i j (q ∷ qs) = rw (between-right i j q, any-right i j qs) refl

    feeds_beside : (i j : ℕ) → feeds_of b i j ≡ (feeds_of t i j || feeds_of u i j)
    feeds_beside i j = rw (list_any-append (is_pair_between b.flat i j) t.pairs (map (shifted_pair n) u.pairs), any-left i j t.pairs ends, any-right i j u.pairs) refl

    pub feeds-left : (i j : ℕ) → feeds_of t i j ≡ true → feeds_of b i j ≡ true
    feeds-left i j fed = feeds_beside i j ∙ or_left (feeds_of t i j) (feeds_of u i j) fed

    pub feeds-right : (i j : ℕ) → feeds_of u i j ≡ true → feeds_of b i j ≡ true
    feeds-right i j fed = feeds_beside i j ∙ or_right (feeds_of t i j) (feeds_of u i j) fed

    pub feeds-cases : (i j : ℕ) → feeds_of b i j ≡ true → (feeds_of t i j ≡ true) ⊎ (feeds_of u i j ≡ true)
    feeds-cases i j fed = or_cases (feeds_of t i j) (feeds_of u i j) (sym (feeds_beside i j) ∙ fed)
