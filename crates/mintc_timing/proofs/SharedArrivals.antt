-- The latest arrival at an element, and the pair by which it comes.
use Rattle.std.proofs.Common.{◌≡◌, ℕ, ◌<◌, ◌==◌, ℤ, ◌≤ℤ◌, Bool, true, false, List, length, arith, ap, ◌∙◌, eq-eqb, inl, inr, ◌⊎◌, ⊎_elim, Option, Some, None, IfSome}
use Rattle.std.proofs.lemmas.Bool.Decides.{nat_tests}
use Rattle.std.proofs.lemmas.List.{get_or_default}
use Rattle.std.specs.List.{Any}
use Rattle.mintc_timing.specs.declared.parts.Pair.{Pair}
use Rattle.mintc_timing.specs.declared.clocking.Schedule.{Schedule}
use Rattle.mintc_timing.specs.Design.{Timing, pair_at, no_pair}
use Rattle.mintc_timing.specs.Extremes.{greater_of, greatest_of, IsGreatest}
use Rattle.mintc_timing.specs.Departures.{late_arrival, late_arrivals, late_opening}
use Rattle.mintc_timing.proofs.SharedExtremesLaws.{greatest_is, greater-least, greater-bound, greater-attained}

same_number : (a b : ℕ) → (a == b) ≡ true → a ≡ b
same_number a b h = grind (arith, nat_tests)

not_both_ways : (b : Bool) → b ≡ true → b ≡ false → ⊥
not_both_ways b g h = cc

module _ (t : Timing) (s : Schedule) (d : List ℤ) (l : ℕ) where
  abbrev into : Pair → Bool
  into p = p.to == l

  -- what the equation of a latch makes of its opening and its arrivals
  abbrev pub latest : ℤ
  latest = greater_of (late_opening t.flat s l) (greatest_of (late_arrivals t s d l))

  -- A pair that leads to the element, and its arrival.
  abbrev pub ArrivesBy : ℤ → Type 0
  ArrivesBy a = (n : ℕ) × (n < length t.pairs) × ((pair_at t n).to ≡ l) × (late_arrival t.flat s d (pair_at t n) ≡ a)

  tops : IsGreatest (late_arrival t.flat s d) into t.pairs (greatest_of (late_arrivals t s d l))
  tops = greatest_is (late_arrival t.flat s d) into t.pairs

  arrives_by : (a : ℤ) → Any (λ (p : Pair). (into p ≡ true) × (late_arrival t.flat s d p ≡ a)) t.pairs → ArrivesBy a
  arrives_by a some =
      let at : pair_at t some.0 ≡ some.1 = get_or_default t.pairs some.0 no_pair some.1 some.2 ∙ some.3 in
      (some.0, some.2, ap (λ (p : Pair). p.to) at ∙ same_number some.1.to l some.4.0, ap (late_arrival t.flat s d) at ∙ some.4.1)

  -- The latest is at least the opening and each arrival, and it is one of them.
  pub latest-opens : late_opening t.flat s l ≤ℤ latest
  latest-opens = greater-least (late_arrival t.flat s d) into (late_opening t.flat s l) (greatest_of (late_arrivals t s d l))

  pub latest-arrives : (n : ℕ) → n < length t.pairs → (pair_at t n).to ≡ l → late_arrival t.flat s d (pair_at t n) ≤ℤ latest
  latest-arrives n below to =
      greater-bound (late_arrival t.flat s d) into (late_opening t.flat s l) t.pairs (greatest_of (late_arrivals t s d l)) tops n no_pair below (eq-eqb (pair_at t n).to l to)

  pub latest-attained : (latest ≡ late_opening t.flat s l) ⊎ ArrivesBy latest
  latest-attained =
      ⊎_elim (λ opens. inl opens) (λ some. inr (arrives_by latest some))
      (greater-attained (late_arrival t.flat s d) into (late_opening t.flat s l) t.pairs (greatest_of (late_arrivals t s d l)) tops)

  -- What holds of the greatest arrival, if there is any, where it holds of each; and the other way, of what holds of less.
  module _ (P : ℤ → Type 0) where
    from_each : ((a : ℤ) → ArrivesBy a → P a) → (o : Option ℤ) → IsGreatest (late_arrival t.flat s d) into t.pairs o → IfSome o P
    from_each each None top = tt
    from_each each (Some a) top = each a (arrives_by a top.attained)

    pub greatest-from_each : ((a : ℤ) → ArrivesBy a → P a) → IfSome (greatest_of (late_arrivals t s d l)) P
    greatest-from_each each = from_each each (greatest_of (late_arrivals t s d l)) tops

    to_each : ((a b : ℤ) → a ≤ℤ b → P b → P a) → (n : ℕ) → n < length t.pairs → (pair_at t n).to ≡ l → (o : Option ℤ) → IsGreatest (late_arrival t.flat s d) into t.pairs o → IfSome o P →
        P (late_arrival t.flat s d (pair_at t n))
    to_each less n below to None top kept = absurd (not_both_ways (into (pair_at t n)) (eq-eqb (pair_at t n).to l to) (top n no_pair below))
    to_each less n below to (Some a) top kept = less (late_arrival t.flat s d (pair_at t n)) a (top.bound n no_pair below (eq-eqb (pair_at t n).to l to)) kept

    pub each-from_greatest : ((a b : ℤ) → a ≤ℤ b → P b → P a) → IfSome (greatest_of (late_arrivals t s d l)) P → (n : ℕ) → n < length t.pairs → (pair_at t n).to ≡ l →
        P (late_arrival t.flat s d (pair_at t n))
    each-from_greatest less kept n below to = to_each less n below to (greatest_of (late_arrivals t s d l)) tops kept
