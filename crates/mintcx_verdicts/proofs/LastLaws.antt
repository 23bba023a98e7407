-- The last arrival at each element, one pair after another.
use Rattle.std.proofs.Common.{◌≡◌, ℕ, ◌<◌, ◌+◌, ◌==◌, ℤ, true, false, List, length, get_or, get_or-set_other, get_or-set_same, length-set, Option, Some, None, arith, ap, ◌∙◌, sym, ⊎_elim, inl, inr}
use Rattle.std.specs.Prelude.{slice_set, map, filter}
use Rattle.std.proofs.lemmas.Bool.{cases_eq}
use Rattle.std.proofs.lemmas.Bool.Decides.{nat_tests}
use Rattle.std.proofs.lemmas.List.{take_all}
use Rattle.mintc_timing.specs.declared.clocking.Schedule.{Schedule}
use Rattle.mintc_timing.specs.declared.parts.Pair.{Pair}
use Rattle.mintc_timing.specs.Design.{Timing, element_count, no_pair, pair_at}
use Rattle.mintc_timing.specs.Departures.{late_arrival, late_arrivals}
use Rattle.mintc_timing.specs.Extremes.{greater_of, greatest_of}
use Rattle.mintc_timing.proofs.SharedExtremesLaws.{greatest-turn}
use Rattle.mintcx_verdicts.specs.Arrivals.{AreLastArrivals}

is_same : (m n : ℕ) → m ≡ n → (m == n) ≡ true
is_same m n e = grind (arith, nat_tests)

pub is_other : (m n : ℕ) → (m ≡ n → ⊥) → (m == n) ≡ false
is_other m n e = grind (arith, nat_tests)

module _ (t : Timing) (s : Schedule) (d : List ℤ) where
  abbrev arrives : Pair → ℤ
  arrives p = late_arrival t.flat s d p

  -- a pair more
  pub last_more : (k : ℕ) (found : List (Option ℤ)) (to : ℕ) (time : ℤ) → AreLastArrivals t s d k found → k < length t.pairs → to ≡ (pair_at t k).to → to < element_count t.flat →
      time ≡ greater_of (arrives (pair_at t k)) (get_or found to None) → AreLastArrivals t s d (k + 1) (slice_set found to (Some time))
  last_more k found to time are below to_is inside time_is = record {
    count = length-set found to (Some time) ∙ are.count;
    each = λ l h. ⊎_elim
        (λ (e : l ≡ to).
        greatest-turn arrives (λ (p : Pair). p.to == l) t.pairs k no_pair (get_or found to None) (get_or (slice_set found to (Some time)) l None) below
        (ap (λ n. get_or found n None) (sym e) ∙ are.each l h)
        (inl (is_same (pair_at t k).to l (sym to_is ∙ sym e), ap (λ n. get_or (slice_set found to (Some time)) n None) e ∙ get_or-set_same found to (Some time) None (omega (arith, are.count)) ∙ ap Some time_is)))
        (λ (e : l ≡ to → ⊥).
        greatest-turn arrives (λ (p : Pair). p.to == l) t.pairs k no_pair (get_or found l None) (get_or (slice_set found to (Some time)) l None) below
        (are.each l h)
        (inr (is_other (pair_at t k).to l (λ f. e (sym f ∙ sym to_is)), get_or-set_other found to l (Some time) None e)))
        (cases_eq l to);
  }

  -- all pairs
  pub last_all : (found : List (Option ℤ)) (l : ℕ) → AreLastArrivals t s d (length t.pairs) found → l < element_count t.flat → get_or found l None ≡ greatest_of (late_arrivals t s d l)
  last_all found l are h =
      are.each l h ∙ ap (λ (ps : List Pair). greatest_of (map arrives (filter (λ (p : Pair). p.to == l) ps))) (take_all (length t.pairs) t.pairs (omega arith))
