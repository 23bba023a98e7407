-- the greatest walks of the network are the late departures
use Rattle.std.proofs.Common.{◌≡◌, ℕ, ◌<◌, ◌^◌, ℤ, pos, negsuc, ◌+ℤ◌, ◌≤ℤ◌, ◌==◌, Bool, true, false, List, [], length, get_or, map, arith, refl, sym, ap, ◌∙◌, ◌⊎◌, inl, inr, ⊎_elim, eq-eqb, Option}
use Rattle.std.proofs.lemmas.Int.{ints}
use Rattle.std.proofs.lemmas.Bool.{cases_Bool, eqb-true}
use Rattle.std.proofs.lemmas.List.{get_or-map, length-map, get_or_default}
use Rattle.std.specs.List.{All, filter}
use Rattle.mintc_graph_walks.specs.Bounds.{IsWithin, AreBounded, AreOrdinary}
use Rattle.mintc_graph_walks.specs.Walks.{arc_at, value_at, IsStart, IsReached}
use Rattle.mintc_graph_walks.specs.Answers.{Meets, HasGreatest}
use Rattle.mintc_timing.specs.declared.parts.Pair.{Pair}
use Rattle.mintc_timing.specs.declared.clocking.Schedule.{Schedule}
use Rattle.mintc_timing.specs.Design.{Timing, element_at, element_count, pair_at, no_pair}
use Rattle.mintc_timing.specs.Departures.{departure, late_arrival, late_arrivals, late_opening, AreExact, AreLate}
use Rattle.mintc_timing.specs.Extremes.{greater_of, greatest_of}
use Rattle.mintc_timing.specs.Paths.{HasExtremes}
use Rattle.mintc_timing.proofs.SharedDepartureLaws.{late_departure-latch, late_departure-flop}
use Rattle.mintc_timing.proofs.SharedExtremesLaws.{greatest_is, greater-least, greater-bound, greater-attained}
use Rattle.mintc_timing.proofs.SharedLoops.{arrival-at_most}
use Rattle.mintc_departure.specs.Clocked.{IsClocked}
use Rattle.mintc_departure.specs.Networks.{late_start_of, late_travel, arc_of, arcs_of}
use Rattle.mintc_departure.proofs.SharedSizes.{pair_ends, start-within, weight-within}

le_antisym : (x y : ℤ) → x ≤ℤ y → y ≤ℤ x → x ≡ y
le_antisym x y h k = omega (arith, ints)

-- A number that is at least b and each item's number, and is one of them, is the greater of b and the greatest.
pub greater-is : {X : Type 0} (f : X → ℤ) (test : X → Bool) (xs : List X) (d : X) (b x : ℤ) → b ≤ℤ x →
    ((n : ℕ) → n < length xs → test (get_or xs n d) ≡ true → f (get_or xs n d) ≤ℤ x) →
    (x ≡ b) ⊎ ((n : ℕ) × (n < length xs) × (test (get_or xs n d) ≡ true) × (x ≡ f (get_or xs n d))) →
    x ≡ greater_of b (greatest_of (map f (filter test xs)))
greater-is {X = X} f test xs d b x low each one =
    let top = greatest_is f test xs in
    let up : x ≤ℤ greater_of b o =
    ⊎_elim
    (λ e. rw e (greater-least f test b o))
    (λ w. rw w.3 (greater-bound f test b xs o top w.0 d w.1 w.2))
    one in
    let down : greater_of b o ≤ℤ x =
    ⊎_elim
    (λ e. rw e low)
    (λ w. some_item w.0 w.1 w.2 (get_or_default xs w.0 d w.1 w.2 ∙ w.3) w.4)
    (greater-attained f test b xs o top) in
    le_antisym x (greater_of b o) up down
  where
    o : Option ℤ
    o = greatest_of (map f (filter test xs))

    some_item : (n : ℕ) (y : X) → n < length xs → get_or xs n d ≡ y → (test y ≡ true) × (f y ≡ greater_of b o) → greater_of b o ≤ℤ x
    some_item n y h e is = rw (← is.1, ← e) (each n h (ap test e ∙ is.0))

less-one : (x : ℤ) → x ≡ x +ℤ negsuc 0 → ⊥
less-one x h = omega (arith, ints)

module _ (t : Timing) (s : Schedule) where
  pub arrival-is : (d : List ℤ) (p : Pair) → late_arrival t.flat s d p ≡ departure d p.from +ℤ late_travel t.flat s p
  arrival-is d p = omega (arith, ints)

  -- the arcs of the network, by the numbers of their pairs
  pub arcs-count : length (arcs_of t s) ≡ length t.pairs
  arcs-count = length-map t.pairs (arc_of t.flat s)

  pub arc_is : (n : ℕ) → n < length t.pairs → arc_at (arcs_of t s) n ≡ arc_of t.flat s (pair_at t n)
  arc_is n h = get_or-map (arc_of t.flat s) t.pairs n no_pair (record { from = 0; to = 0; weight = pos 0 }) h

  -- Exact departures meet the arcs, and are nowhere below a start.
  module _ (d : List ℤ) (exact : AreExact t s d) (extremes : All (HasExtremes t.flat) t.pairs) where
    pub exact-meets : Meets (arcs_of t s) (departure d)
    exact-meets n h' =
        let h : n < length t.pairs = rw arcs-count at h' in
        ⊎_elim
        (λ e. rw (arc_is n h) (rw e (omega (arith, ints))))
        (λ e. let a = arrival-at_most t s d exact extremes n no_pair h e in rw (arc_is n h) (rw e (omega (arith, ints))))
        (cases_Bool (element_at t.flat (pair_at t n).to).flop)

    pub exact-starts : (l : ℕ) → l < element_count t.flat → late_start_of t.flat s l ≤ℤ departure d l
    exact-starts l h =
        let is = exact.each l h in
        ⊎_elim
        (λ e. rw is (rw e (omega (arith, ints))))
        (λ e. rw is (rw e (greater-least (late_arrival t.flat s d) (λ p. p.to == l) (late_opening t.flat s l) (greatest_of (late_arrivals t s d l)))))
        (cases_Bool (element_at t.flat l).flop)

module _ (t : Timing) (s : Schedule) (fits : IsClocked t s) where
  pub arcs-ordinary : AreOrdinary (element_count t.flat) (arcs_of t s)
  arcs-ordinary n h' =
      let h : n < length t.pairs = rw (arcs-count t s) at h' in
      let ends = pair_ends t s fits n h in
      let w = weight-within t s fits n h in
      let wide : IsWithin (2 ^ 80) (arc_of t.flat s (pair_at t n)).weight = let a = w.0 in let b = w.1 in (omega (arith, ints), omega (arith, ints)) in
      let from : (arc_of t.flat s (pair_at t n)).from < element_count t.flat = ⊎_elim (λ e. rw e ends.to) (λ e. rw e ends.from) (cases_Bool (element_at t.flat (pair_at t n).to).flop) in
      rw (arc_is t s n h) (from, ends.to, wide)

  module _ (starts : List ℤ) (count : length starts ≡ element_count t.flat) (each : (l : ℕ) → l < element_count t.flat → value_at starts l ≡ late_start_of t.flat s l) where
    pub starts-ordinary : AreBounded (2 ^ 80) starts
    starts-ordinary v h =
        let h' : v < element_count t.flat = rw count at h in
        let w = start-within t s fits v h' in
        rw (each v h') (let a = w.0 in let b = w.1 in (omega (arith, ints), λ r. (omega (arith, ints), omega (arith, ints))))

    pub is_start : (l : ℕ) → l < element_count t.flat → IsStart starts l
    is_start l h =
        let w = start-within t s fits l h in
        (rw count h, rw (each l h) (let a = w.0 in let b = w.1 in omega (arith, ints)))

    module _ (values : List ℤ) (same : length values ≡ length starts) (g : HasGreatest (arcs_of t s) starts values) where
      reached : (l : ℕ) → l < element_count t.flat → IsReached values l
      reached l h = g.reached l [] l (is_start l h) refl

      above_start : (l : ℕ) → l < element_count t.flat → late_start_of t.flat s l ≤ℤ value_at values l
      above_start l h =
          let n = (g.greatest l (rw count h) (reached l h)).none_greater l [] (is_start l h) refl in
          let e = each l h in
          omega (arith, ints)

      -- No arc brings a flop its value, since the arcs there would take 1 away from it.
      flop_is : (l : ℕ) → l < element_count t.flat → (element_at t.flat l).flop ≡ true → value_at values l ≡ pos 0
      flop_is l h e =
          ⊎_elim
          (λ a. rw e at (a.1 ∙ each l h))
          (λ w.
          let k : w.0 < length t.pairs = rw (arcs-count t s) at w.1 in
          let to : (pair_at t w.0).to ≡ l = rw (arc_is t s w.0 k) at w.2 in
          let flop : (element_at t.flat (pair_at t w.0).to).flop ≡ true = ap (λ (m : ℕ). (element_at t.flat m).flop) to ∙ e in
          let brings = rw (arc_is t s w.0 k, flop, to) at w.4 in
          absurd (less-one (value_at values l) brings))
          (g.tight l (rw count h) (reached l h))

      met : (n : ℕ) → n < length t.pairs → (element_at t.flat (pair_at t n).to).flop ≡ false → late_arrival t.flat s values (pair_at t n) ≤ℤ value_at values (pair_at t n).to
      met n h latch =
          let ends = pair_ends t s fits n h in
          let from : IsReached values (arc_at (arcs_of t s) n).from = rw (arc_is t s n h, latch) (reached (pair_at t n).from ends.from) in
          let m = (g.met n (rw (arcs-count t s) h) from).1 in
          rw (arrival-is t s values (pair_at t n)) (rw (arc_is t s n h, latch) at m)

      latch_is : (l : ℕ) → l < element_count t.flat → (element_at t.flat l).flop ≡ false → value_at values l ≡ greater_of (late_opening t.flat s l) (greatest_of (late_arrivals t s values l))
      latch_is l h e =
          greater-is (late_arrival t.flat s values) (λ (p : Pair). p.to == l) t.pairs no_pair (late_opening t.flat s l) (value_at values l)
          (rw e at (above_start l h))
          (λ n k to. let is = eqb-true _ _ to in rw (← is) (met n k (rw is e)))
          (⊎_elim
          (λ a. inl (rw e at (a.1 ∙ each l h)))
          (λ w.
          let k : w.0 < length t.pairs = rw (arcs-count t s) at w.1 in
          let to : (pair_at t w.0).to ≡ l = rw (arc_is t s w.0 k) at w.2 in
          let latch : (element_at t.flat (pair_at t w.0).to).flop ≡ false = ap (λ (m : ℕ). (element_at t.flat m).flop) to ∙ e in
          let brings = rw (arc_is t s w.0 k, latch) at w.4 in
          inr (w.0, k, eq-eqb _ _ to, brings ∙ sym (arrival-is t s values (pair_at t w.0))))
          (g.tight l (rw count h) (reached l h)))

      pub greatest-late : AreLate t s values
      greatest-late = record {
        exact = record {
          count = same ∙ count;
          each = λ l h.
              ⊎_elim
              (λ e. flop_is l h e ∙ sym (late_departure-flop t s values l e))
              (λ e. latch_is l h e ∙ sym (late_departure-latch t s values l e))
              (cases_Bool (element_at t.flat l).flop);
        };
        least = λ d exact l h.
            g.least (departure d) (exact-meets t s d exact fits.timing.extremes.each)
            (λ u start. let k : u < element_count t.flat = rw count at start.0 in rw (each u k) (exact-starts t s d exact fits.timing.extremes.each u k))
            l (rw count h) (reached l h);
      }
