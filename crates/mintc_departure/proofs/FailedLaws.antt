-- loops that append those checks of a list that are failed
use Rattle.std.proofs.Common.{arith, ◌≡◌, ℕ, ◌+◌, ◌<◌, List, [], ◌∷◌, ◌++◌, length, get_or, take, map, Bool, cond, Option, refl, sym, ap, ◌∙◌, append_assoc, zero-add, int_lt, pos}
use Rattle.std.proofs.lemmas.List.{append-nil, get_or_default, map-append, map-id, map_more}
use Rattle.std.specs.List.{enumerate_from, filter, filter_map, flat_map, range_with_len}
use Rattle.std.proofs.lemmas.List.FromFn.{map-range_with_len_more, length-enumerate_from, get_or-enumerate_from}
use Rattle.std.proofs.lemmas.Grind.{flat_map-append}
use Rattle.std.proofs.lemmas.List.Elements.{filter-append, filter_map-append}
use Rattle.mintc_timing.specs.declared.parts.Bound.{Bound}
use Rattle.mintc_timing.specs.declared.violation.Violation.{Violation}
use Rattle.mintc_timing.specs.Violations.{failed}

-- two lists of checks, one after the other
pub failed-append : (xs ys : List Violation) → failed (xs ++ ys) ≡ failed xs ++ failed ys
failed-append xs ys = filter-append (λ v. int_lt (pos 0) v.amount) xs ys

range-more : (a n : ℕ) → range_with_len a (n + 1) ≡ range_with_len a n ++ (a + n) ∷ []
range-more a n = sym (map-id (range_with_len a (n + 1))) ∙ map-range_with_len_more (λ k. k) a n (a + n) refl ∙ ap (λ ks. ks ++ (a + n) ∷ []) (map-id (range_with_len a n))

-- checks of the numbers of a range, one more at a time
more : (checks : List ℕ → List Violation) → ((xs ys : List ℕ) → checks (xs ++ ys) ≡ checks xs ++ checks ys) → (a n : ℕ) →
    failed (checks (range_with_len a (n + 1))) ≡ failed (checks (range_with_len a n)) ++ failed (checks ((a + n) ∷ []))
more checks parts a n =
    ap (λ ks. failed (checks ks)) (range-more a n) ∙ ap failed (parts (range_with_len a n) ((a + n) ∷ [])) ∙ failed-append (checks (range_with_len a n)) (checks ((a + n) ∷ []))

pub mapped-more : (f : ℕ → Violation) (a n : ℕ) → failed (map f (range_with_len a (n + 1))) ≡ failed (map f (range_with_len a n)) ++ failed (f (a + n) ∷ [])
mapped-more f a n = more (map f) (map-append f) a n

pub optional-more : (f : ℕ → Option Violation) (a n : ℕ) → failed (filter_map f (range_with_len a (n + 1))) ≡ failed (filter_map f (range_with_len a n)) ++ failed (filter_map f ((a + n) ∷ []))
optional-more f a n = more (filter_map f) (filter_map-append f) a n

pub flat-more : (f : ℕ → List Violation) (a n : ℕ) → failed (flat_map f (range_with_len a (n + 1))) ≡ failed (flat_map f (range_with_len a n)) ++ failed (f (a + n))
flat-more f a n = more (flat_map f) (flat_map-append f) a n ∙ ap (λ vs. failed (flat_map f (range_with_len a n)) ++ failed vs) (append-nil (f (a + n)))

pub passing-more : (f : ℕ → Violation) (test : ℕ → Bool) (a n : ℕ) →
    failed (map f (filter test (range_with_len a (n + 1)))) ≡ failed (map f (filter test (range_with_len a n))) ++ failed (cond (test (a + n)) (f (a + n) ∷ []) [])
passing-more f test a n =
    more (λ js. map f (filter test js)) (λ xs ys. ap (map f) (filter-append test xs ys) ∙ map-append f (filter test xs) (filter test ys)) a n
    ∙ ap (λ vs. failed (map f (filter test (range_with_len a n))) ++ failed vs) (one (test (a + n)))
  where
    one : (b : Bool) → map f (cond b ((a + n) ∷ []) []) ≡ cond b (f (a + n) ∷ []) []
    one b = grind arith

-- one more bound with its number
pub numbered-more : (f : ℕ × Bound → Violation) (bounds : List Bound) (i : ℕ) (d : Bound) → i < length bounds →
    failed (map f (take (i + 1) (enumerate_from 0 bounds))) ≡ failed (map f (take i (enumerate_from 0 bounds))) ++ failed (f (i, get_or bounds i d) ∷ [])
numbered-more f bounds i d h =
    let b = get_or bounds i d in
    let at : get_or (enumerate_from 0 bounds) i (i, b) ≡ (i, b) =
    get_or-enumerate_from 0 bounds i (i, b) h ∙ ap (λ (k : ℕ). (k, get_or bounds i b)) (zero-add i) ∙ ap (λ (y : Bound). (i, y)) (get_or_default bounds i b d h) in
    ap failed (map_more f (enumerate_from 0 bounds) i (i, b) (rw (length-enumerate_from 0 bounds) h))
    ∙ failed-append (map f (take i (enumerate_from 0 bounds))) (f (get_or (enumerate_from 0 bounds) i (i, b)) ∷ [])
    ∙ ap (λ y. failed (map f (take i (enumerate_from 0 bounds))) ++ failed (f y ∷ [])) at

pub ruleset turns = (append_assoc, zero-add, mapped-more, optional-more, flat-more, passing-more)
