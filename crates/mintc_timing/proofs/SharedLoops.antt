-- An arrival is no later than the departure, so no loop has a positive sum.
use Rattle.std.proofs.Common.{◌≡◌, ℕ, ◌<◌, ℤ, pos, ◌≤ℤ◌, ◌+ℤ◌, ◌*ℤ◌, ◌==◌, false, IsFalse, List, [], ◌∷◌, length, get_or, arith, refl, eq-eqb}
use Rattle.std.proofs.lemmas.Int.{ints}
use Rattle.std.specs.List.{All}
use Rattle.std.proofs.lemmas.List.Elements.{All-head, All-tail}
use Rattle.mintc_timing.specs.declared.parts.Pair.{Pair}
use Rattle.mintc_timing.specs.declared.clocking.Schedule.{Schedule}
use Rattle.mintc_graph.specs.Rings.{total, Joins}
use Rattle.mintc_timing.specs.Design.{Timing, element_at, phase_of, pair_at}
use Rattle.mintc_timing.specs.Departures.{AreExact, departure, late_arrival, late_opening}
use Rattle.mintc_timing.specs.Clocking.{shift_of}
use Rattle.mintc_timing.specs.Paths.{HasExtremes}
use Rattle.mintc_timing.specs.Violations.{HasLoop}
use Rattle.mintc_timing.proofs.SharedExtremesLaws.{greatest_is, greater-bound}

module _ (t : Timing) (s : Schedule) (d : List ℤ) (exact : AreExact t s d) (extremes : All (HasExtremes t.flat) t.pairs) where
  -- An arrival at a latch is at most its departure.
  pub arrival-at_most : (n : ℕ) (e : Pair) → n < length t.pairs → (element_at t.flat (get_or t.pairs n e).to).flop ≡ false →
      late_arrival t.flat s d (get_or t.pairs n e) ≤ℤ departure d (get_or t.pairs n e).to
  arrival-at_most n e h latch =
      let p = get_or t.pairs n e in
      let l = p.to in
      let named = extremes n e h in
      let is = exact.each l named.to in
      let top = greatest_is (late_arrival t.flat s d) (λ q. q.to == l) t.pairs in
      let bound = greater-bound (late_arrival t.flat s d) (λ q. q.to == l) (late_opening t.flat s l) t.pairs _ top n e h (eq-eqb l l refl) in
      rw (is, latch) bound

  -- by how much a pair raises a time
  abbrev rise : ℕ → ℤ
  rise n = ((element_at t.flat (pair_at t n).from).dq_max +ℤ (pair_at t n).max) *ℤ s.den +ℤ shift_of s (phase_of t.flat (pair_at t n).from) (phase_of t.flat (pair_at t n).to)

  starts_at_latch : (xs : List ℕ) (a b : ℕ) → All (λ n. IsFalse (element_at t.flat (pair_at t n).from).flop) xs →
      Joins (λ n. (pair_at t n).from) (λ n. (pair_at t n).to) a xs b → IsFalse (element_at t.flat b).flop → IsFalse (element_at t.flat a).flop
  starts_at_latch [] a b latches joins last = rw joins last
  starts_at_latch (n ∷ xs) a b latches joins last = rw (← joins.0) (All-head (λ n. IsFalse (element_at t.flat (pair_at t n).from).flop) n xs latches)

  -- Along pairs that lead from a to b over latches alone, the rise is at most that of the departures.
  rise-at_most : (xs : List ℕ) (a b : ℕ) → All (λ n. n < length t.pairs) xs → All (λ n. IsFalse (element_at t.flat (pair_at t n).from).flop) xs →
      Joins (λ n. (pair_at t n).from) (λ n. (pair_at t n).to) a xs b → IsFalse (element_at t.flat b).flop →
      (departure d a +ℤ total rise xs) ≤ℤ departure d b
  rise-at_most [] a b exist latches joins last = rw joins (omega (arith, ints))
  rise-at_most (n ∷ xs) a b exist latches joins last =
      let here : n < length t.pairs = All-head (λ n. n < length t.pairs) n xs exist in
      let exist' = All-tail (λ n. n < length t.pairs) n xs exist in
      let latches' = All-tail (λ n. IsFalse (element_at t.flat (pair_at t n).from).flop) n xs latches in
      let next = starts_at_latch xs (pair_at t n).to b latches' joins.1 last in
      let rest = rise-at_most xs (pair_at t n).to b exist' latches' joins.1 last in
      let one = arrival-at_most n (record { from = 0; to = 0; min = pos 0; max = pos 0 }) here next in
      rw (← joins.0) (omega (arith, ints))

  -- No loop has an amount above 0, where exact departures are there.
  pub no_loop : (loop : List ℕ) (amount : ℤ) → HasLoop t s loop amount → ⊥
  no_loop [] amount h = h.is_loop.closed
  no_loop (n ∷ xs) amount h =
      let ring = h.is_loop in
      let first = All-head (λ n. IsFalse (element_at t.flat (pair_at t n).from).flop) n xs ring.latches in
      let whole : (departure d (pair_at t n).from +ℤ total rise (n ∷ xs)) ≤ℤ departure d (pair_at t n).from =
      rise-at_most (n ∷ xs) (pair_at t n).from (pair_at t n).from ring.exist ring.latches (refl, ring.closed) first in
      let is = h.is_amount in
      let above = h.above in
      omega (arith, ints)
