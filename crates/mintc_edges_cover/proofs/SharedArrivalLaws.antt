-- Late departures: those that are nowhere later make departures that are nowhere later, and those that stay above what
-- they make can be lowered to exact ones.
use Rattle.std.proofs.Common.{ℕ, ℤ, pos, ◌≤ℤ◌, List, [], ◌∷◌, map, ⊎_elim, arith, cond, Option}
use Rattle.std.proofs.lemmas.Int.{ints, clamps}
use Rattle.std.proofs.lemmas.Bool.{cases_Bool}
use Rattle.mintc_timing.specs.declared.parts.Pair.{Pair}
use Rattle.mintc_timing.specs.declared.clocking.Schedule.{Schedule}
use Rattle.mintc_timing.specs.Design.{Timing, element_at, element_count}
use Rattle.mintc_timing.specs.Departures.{departure, into, late_arrival, late_arrivals, late_opening, late_departure, AreExact, AreAtMost}
use Rattle.mintc_timing.specs.Extremes.{greater_of, greatest_of}
use Rattle.mintc_timing.proofs.SharedDepartureLaws.{late_departure-latch, late_departure-flop}
use Rattle.mintc_departure.proofs.SharedLesser.{IsNoLater, greater-mono, greater-from}
use Rattle.mintc_edges_cover.proofs.FixedLaws.{IsLowered, fixed_below}

greater_of-mono : (x y : ℤ) (o p : Option ℤ) → x ≤ℤ y → IsNoLater o p → greater_of x o ≤ℤ greater_of y p
greater_of-mono x y o p h k = grind (arith, ints, clamps)

-- the greatest of greater numbers is no less
greatest-mono : {X : Type 0} (f g : X → ℤ) → ((x : X) → f x ≤ℤ g x) → (xs : List X) → IsNoLater (greatest_of (map f xs)) (greatest_of (map g xs))
greatest-mono f g h [] = tt
greatest-mono f g h (x ∷ xs) = greater_of-mono (f x) (g x) (greatest_of (map f xs)) (greatest_of (map g xs)) (h x) (greatest-mono f g h xs)

module _ (t : Timing) (s : Schedule) where
  pub arrival-mono : (d e : List ℤ) (p : Pair) → departure d p.from ≤ℤ departure e p.from → late_arrival t.flat s d p ≤ℤ late_arrival t.flat s e p
  arrival-mono d e p h = omega (arith, ints)

  pub departure-mono : (d e : List ℤ) → ((l : ℕ) → departure d l ≤ℤ departure e l) → (l : ℕ) → late_departure t s d l ≤ℤ late_departure t s e l
  departure-mono d e h l =
      ⊎_elim
      (λ flop. rw (late_departure-flop t s d l flop, late_departure-flop t s e l flop) (omega (arith, ints)))
      (λ latch. rw (late_departure-latch t s d l latch, late_departure-latch t s e l latch) (greater-mono (late_opening t.flat s l) _ _
      (greatest-mono (late_arrival t.flat s d) (late_arrival t.flat s e) (λ p. arrival-mono d e p (h p.from)) (into t l))))
      (cases_Bool (element_at t.flat l).flop)

  -- when an element departs at the latest where no data reaches it
  abbrev first : ℕ → ℤ
  first l = cond (element_at t.flat l).flop (pos 0) (late_opening t.flat s l)

  first-least : (d : List ℤ) (l : ℕ) → first l ≤ℤ late_departure t s d l
  first-least d l =
      ⊎_elim
      (λ flop. rw flop (omega (arith, ints)))
      (λ latch. rw latch (greater-from (late_opening t.flat s l) (greatest_of (late_arrivals t s d l))))
      (cases_Bool (element_at t.flat l).flop)

  -- Departures stay above what they make.
  abbrev pub StaysAbove : List ℤ → Type 0
  StaysAbove d = IsLowered (element_count t.flat) (late_departure t s) departure-mono d

  -- exact departures that are nowhere later than these
  abbrev pub Exact : List ℤ → Type 0
  Exact d = (e : List ℤ) × AreExact t s e × AreAtMost t.flat e d

  pub lowered_to_exact : (d : List ℤ) → StaysAbove d → Exact d
  lowered_to_exact d h =
      let w = fixed_below (element_count t.flat) (late_departure t s) departure-mono first first-least d h in
      (w.0, record { count = w.1.count; each = w.1.each }, w.2)
