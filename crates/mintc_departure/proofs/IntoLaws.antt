-- the pairs into an element, followed from the last one down
use Rattle.std.proofs.Common.{◌≡◌, ℕ, zero, suc, ◌+◌, ◌-◌, ◌<◌, ◌≤◌, ◌==◌, Bool, false, cond, ℤ, List, [], ◌∷◌, length, get_or, map, drop, arith, refl, sym, ap, ◌∙◌, subst, eq-eqb, ne_eqb}
use Rattle.std.proofs.lemmas.List.{drop_more, get_or_default}
use Rattle.std.specs.List.{filter}
use Rattle.std.specs.Int.{int_min}
use Rattle.mintc_adjacency.specs.Adjacency.{IsLast}
use Rattle.mintc_timing.specs.declared.parts.Pair.{Pair}
use Rattle.mintc_timing.specs.Design.{no_pair}
use Rattle.mintc_timing.specs.Extremes.{least_of}
use Rattle.mintc_departure.specs.declared.arrivals.TheConstants.{NEVER}
use Rattle.mintc_departure.specs.Rounds.{IsArrivalSum, IsFirst}
use Rattle.mintc_departure.proofs.SharedLesser.{first-more}

module _ (test : Pair → Bool) (pairs : List Pair) where
  filter-at : (n : ℕ) → n < length pairs →
      filter test (drop n pairs) ≡ cond (test (get_or pairs n no_pair)) (get_or pairs n no_pair ∷ filter test (drop (n + 1) pairs)) (filter test (drop (n + 1) pairs))
  filter-at n h = ap (λ ps. filter test ps) (drop_more pairs n no_pair h)

  filter-skip : (k x i : ℕ) → i ≡ k + x → i ≤ length pairs → ((n : ℕ) → x ≤ n → n < i → test (get_or pairs n no_pair) ≡ false) →
      filter test (drop x pairs) ≡ filter test (drop i pairs)
  filter-skip zero x i e h none = ap (λ (j : ℕ). filter test (drop j pairs)) (omega arith)
  filter-skip (suc k) x i e h none =
      rw (none x (omega arith) (omega arith)) at (filter-at x (omega arith)) ∙ filter-skip k (x + 1) i (omega arith) h (λ n a b. none n (omega arith) b)

-- the pairs into an element from the last one of the first i on
pub into-skip : (pairs : List Pair) (l i x : ℕ) → i ≤ length pairs → IsLast (λ n. (get_or pairs n no_pair).to) l i x →
    filter (λ (p : Pair). p.to == l) (drop x pairs) ≡ filter (λ (p : Pair). p.to == l) (drop i pairs)
into-skip pairs l i x h is =
    filter-skip (λ (p : Pair). p.to == l) pairs (i - x) x i (omega arith) h (λ n a b. ne_eqb _ l (is.last n a b))

-- no pair comes after the last one
pub into-none : (f : Pair → ℤ) (pairs : List Pair) (l x : ℕ) → IsLast (λ n. (get_or pairs n no_pair).to) l (length pairs) x →
    IsFirst (least_of (map f (filter (λ (p : Pair). p.to == l) (drop x pairs)))) NEVER
into-none f pairs l x is =
    rw (into-skip pairs l (length pairs) x (omega arith) is, drop-all pairs) refl
  where
    drop-all : (ps : List Pair) → drop (length ps) ps ≡ []
    drop-all [] = refl
    drop-all (p ∷ ps) = drop-all ps

-- one more pair of a chain
pub into-more : (f : Pair → ℤ) (pairs : List Pair) (l n x : ℕ) (v w : ℤ) → n < length pairs → (get_or pairs n no_pair).to ≡ l → IsLast (λ n. (get_or pairs n no_pair).to) l n x →
    IsArrivalSum (f (get_or pairs n no_pair)) → w ≡ int_min (f (get_or pairs n no_pair)) v →
    IsFirst (least_of (map f (filter (λ (p : Pair). p.to == l) (drop (n + 1) pairs)))) v →
    IsFirst (least_of (map f (filter (λ (p : Pair). p.to == l) (drop x pairs)))) w
into-more f pairs l n x v w h to is range e first =
    let whole = into-skip pairs l n x (omega arith) is ∙ rw (eq-eqb _ l to) at (filter-at (λ (p : Pair). p.to == l) pairs n h) in
    rw (whole, e) (first-more (least_of (map f (filter (λ (p : Pair). p.to == l) (drop (n + 1) pairs)))) v (f (get_or pairs n no_pair)) range first)
