-- Early departures: what makes them, that a schedule with exact departures has them, and that they are at most all that
-- what they make is no later than.
use Rattle.std.proofs.Common.{◌≡◌, ℕ, zero, suc, ◌<◌, ◌==◌, ℤ, pos, ◌≤ℤ◌, ◌+ℤ◌, ◌-ℤ◌, ◌*ℤ◌, Bool, true, false, List, [], ◌∷◌, map, length, get_or, ⊎_elim, arith, refl, sym, ap, ◌∙◌, subst, cond, Option, Some}
use Rattle.std.proofs.lemmas.Int.{ints, clamps}
use Rattle.std.proofs.lemmas.Bool.{cases_Bool, eqb-true}
use Rattle.std.proofs.lemmas.List.FromFn.{length-map-range_with_len, get_or-map-range_with_len}
use Rattle.std.specs.List.{filter}
use Rattle.std.specs.Int.{int_min}
use Rattle.mintc_timing.specs.declared.parts.Pair.{Pair}
use Rattle.mintc_timing.specs.declared.clocking.Schedule.{Schedule}
use Rattle.mintc_timing.specs.Design.{Timing, element_at, element_count, pair_at, no_pair, no_element}
use Rattle.mintc_timing.specs.Departures.{departure, into, early_arrival, early_arrivals, early_opening, early_departure, late_arrival, late_opening, late_arrivals, AreExact, AreEarly, AreExactEarly, AreAtMost}
use Rattle.mintc_timing.specs.Extremes.{greater_of, greatest_of, least_of, lesser_of}
use Rattle.mintc_timing.specs.Limits.{IsDesign}
use Rattle.mintc_timing.specs.Order.{IsTiming}
use Rattle.mintc_timing.specs.Violations.{elements_of}
use Rattle.mintc_timing.proofs.SharedDepartureLaws.{late_departure-latch, late_departure-flop}
use Rattle.mintc_timing.proofs.SharedLoops.{arrival-at_most}
use Rattle.mintc_timing.proofs.SharedProducts.{add-times, times-mono_positive}
use Rattle.mintc_departure.proofs.SharedLesser.{greater-mono, greater-from, greater-some, least-mono}
use Rattle.mintc_departure.proofs.SharedSizes.{pair-min_order}
use Rattle.mintc_edges_cover.proofs.FixedLaws.{AtMost, IsLowered, IsRaised, fixed_below, least_above}
use Rattle.mintc_edges_cover.proofs.LateLaws.{opening-sum}

module _ (t : Timing) (s : Schedule) where
  pub early_arrival-mono : (d e : List ℤ) (p : Pair) → departure d p.from ≤ℤ departure e p.from → early_arrival t.flat s d p ≤ℤ early_arrival t.flat s e p
  early_arrival-mono d e p h = omega (arith, ints)

  pub early-flop : (d : List ℤ) (l : ℕ) → (element_at t.flat l).flop ≡ true → early_departure t s d l ≡ pos 0
  early-flop d l h = ap (λ (b : Bool). cond b (pos 0) (greater_of (early_opening t.flat s l) (least_of (early_arrivals t s d l)))) h

  pub early-latch : (d : List ℤ) (l : ℕ) → (element_at t.flat l).flop ≡ false → early_departure t s d l ≡ greater_of (early_opening t.flat s l) (least_of (early_arrivals t s d l))
  early-latch d l h = ap (λ (b : Bool). cond b (pos 0) (greater_of (early_opening t.flat s l) (least_of (early_arrivals t s d l)))) h

  pub early-mono : (d e : List ℤ) → ((l : ℕ) → departure d l ≤ℤ departure e l) → (l : ℕ) → early_departure t s d l ≤ℤ early_departure t s e l
  early-mono d e h l =
      ⊎_elim
      (λ flop. rw (early-flop d l flop, early-flop e l flop) (omega (arith, ints)))
      (λ latch. rw (early-latch d l latch, early-latch e l latch) (greater-mono (early_opening t.flat s l) _ _
      (least-mono (early_arrival t.flat s d) (early_arrival t.flat s e) (λ p. early_arrival-mono d e p (h p.from)) (into t l))))
      (cases_Bool (element_at t.flat l).flop)

  -- when an element departs at the earliest where no data reaches it
  abbrev first : ℕ → ℤ
  first l = cond (element_at t.flat l).flop (pos 0) (early_opening t.flat s l)

  first-least : (d : List ℤ) (l : ℕ) → first l ≤ℤ early_departure t s d l
  first-least d l =
      ⊎_elim
      (λ flop. rw flop (omega (arith, ints)))
      (λ latch. rw latch (greater-from (early_opening t.flat s l) (least_of (early_arrivals t s d l))))
      (cases_Bool (element_at t.flat l).flop)

  abbrev pub StaysLater : List ℤ → Type 0
  StaysLater d = IsLowered (element_count t.flat) (early_departure t s) early-mono d

  -- Early departures are at most those that stay above what they make.
  pub early-at_most : (early d : List ℤ) → AreEarly t s early → StaysLater d → AreAtMost t.flat early d
  early-at_most early d are h l below =
      let w = fixed_below (element_count t.flat) (early_departure t s) early-mono first first-least d h in
      let exact : AreExactEarly t s w.0 = record { count = w.1.count; each = w.1.each } in
      omega (arith, ints, are.least w.0 exact l below, w.2 l below)

  -- The early departures are found above the first ones, where some departures stay above what they make.
  abbrev firsts : List ℤ
  firsts = map first (elements_of t.flat)

  firsts-count : length firsts ≡ element_count t.flat
  firsts-count = length-map-range_with_len first 0 (element_count t.flat)

  firsts-is : (l : ℕ) → l < element_count t.flat → departure firsts l ≡ first l
  firsts-is l h = get_or-map-range_with_len first 0 (element_count t.flat) l l (pos 0) h (omega arith)

  firsts-raised : IsRaised (element_count t.flat) (early_departure t s) early-mono firsts
  firsts-raised = record { count = firsts-count; each = λ l h. rw (firsts-is l h) (first-least firsts l) }

  pub early_exist : (top : List ℤ) → StaysLater top → (early : List ℤ) × AreEarly t s early
  early_exist top h =
      let under : AtMost (element_count t.flat) firsts top = λ l below. let a = first-least top l in let b = h.each l below in rw (firsts-is l below) (omega (arith, ints)) in
      let w = least_above (element_count t.flat) (early_departure t s) early-mono top h firsts firsts-raised under in
      let exact : AreExactEarly t s w.0 = record { count = w.1.count; each = w.1.each } in (
        w.0,
        record {
          exact = exact;
          least = λ x fix l below. w.2 x (record { count = fix.count; each = fix.each }) (λ k here. rw (firsts-is k here, fix.each k here) (first-least x k)) l below;
        },
      )

  -- ---- late departures, with what is greater of the delays, stay above what they make early
  module _ (limits : IsDesign t.flat) (kept : IsTiming t.flat t.order t.pairs) (some : pos 1 ≤ℤ s.den) (late : List ℤ) (exact : AreExact t s late) where
    abbrev top_at : ℕ → ℤ
    top_at l = cond (element_at t.flat l).flop (pos 0) (departure late l +ℤ ((element_at t.flat l).dq_max *ℤ s.den -ℤ (element_at t.flat l).dq_min *ℤ s.den))

    abbrev top : List ℤ
    top = map top_at (elements_of t.flat)

    top-is : (l : ℕ) → l < element_count t.flat → departure top l ≡ top_at l
    top-is l h = get_or-map-range_with_len top_at 0 (element_count t.flat) l l (pos 0) h (omega arith)

    top-flop : (l : ℕ) → l < element_count t.flat → (element_at t.flat l).flop ≡ true → departure top l ≡ pos 0
    top-flop l h flop = top-is l h ∙ ap (λ (b : Bool). cond b (pos 0) (departure late l +ℤ ((element_at t.flat l).dq_max *ℤ s.den -ℤ (element_at t.flat l).dq_min *ℤ s.den))) flop

    top-latch : (l : ℕ) → l < element_count t.flat → (element_at t.flat l).flop ≡ false → departure top l ≡ departure late l +ℤ ((element_at t.flat l).dq_max *ℤ s.den -ℤ (element_at t.flat l).dq_min *ℤ s.den)
    top-latch l h latch = top-is l h ∙ ap (λ (b : Bool). cond b (pos 0) (departure late l +ℤ ((element_at t.flat l).dq_max *ℤ s.den -ℤ (element_at t.flat l).dq_min *ℤ s.den))) latch

    dq-grow : (l : ℕ) → l < element_count t.flat → ((element_at t.flat l).dq_min *ℤ s.den) ≤ℤ ((element_at t.flat l).dq_max *ℤ s.den)
    dq-grow l h = times-mono_positive _ _ s.den (limits.each_element l no_element h).dq some

    -- data leaves early no later than late
    output : (l : ℕ) → l < element_count t.flat →
        (departure top l +ℤ (element_at t.flat l).dq_min *ℤ s.den) ≤ℤ (departure late l +ℤ (element_at t.flat l).dq_max *ℤ s.den)
    output l h =
        ⊎_elim
        (λ flop. omega (arith, ints, top-flop l h flop, exact.each l h, late_departure-flop t s late l flop, dq-grow l h))
        (λ latch. omega (arith, ints, top-latch l h latch))
        (cases_Bool (element_at t.flat l).flop)

    arrival-before : (n : ℕ) → n < length t.pairs → early_arrival t.flat s top (pair_at t n) ≤ℤ late_arrival t.flat s late (pair_at t n)
    arrival-before n h =
        let p = pair_at t n in
        let from = element_at t.flat p.from in
        let ends = kept.extremes.each n no_pair h in
        let low = add-times from.dq_min p.min s.den in
        let high = add-times from.dq_max p.max s.den in
        let grow = times-mono_positive p.min p.max s.den (pair-min_order t.flat t.order t.pairs limits kept n no_pair h).1 some in
        omega (arith, ints, output p.from ends.from, low, high, grow)

    stays_latch : (l : ℕ) → l < element_count t.flat → (element_at t.flat l).flop ≡ false →
        greater_of (early_opening t.flat s l) (least_of (early_arrivals t s top l)) ≤ℤ departure top l
    stays_latch l h latch =
        let e = element_at t.flat l in
        ⊎_elim
        (λ opens.
        let opened : late_opening t.flat s l ≤ℤ departure late l =
        subst (λ v. late_opening t.flat s l ≤ℤ v) (sym (exact.each l h ∙ late_departure-latch t s late l latch)) (greater-from (late_opening t.flat s l) (greatest_of (late_arrivals t s late l))) in
        let low = opening-sum e.cq_min e.dq_min s.den in
        let high = opening-sum e.cq_max e.dq_max s.den in
        let cq = times-mono_positive e.cq_min e.cq_max s.den (limits.each_element l no_element h).cq some in
        omega (arith, ints, opens, opened, low, high, cq, top-latch l h latch))
        (λ w.
        let to : (pair_at t w.0).to ≡ l = eqb-true _ _ w.2 in
        let before = arrival-before w.0 w.1 in
        let comes = arrival-at_most t s late exact kept.extremes.each w.0 no_pair w.1 (ap (λ v. (element_at t.flat v).flop) to ∙ latch) in
        let there : departure late (pair_at t w.0).to ≡ departure late l = ap (departure late) to in
        omega (arith, ints, w.3, before, comes, there, top-latch l h latch, dq-grow l h))
        (greater-some (early_arrival t.flat s top) (λ (p : Pair). p.to == l) no_pair (early_opening t.flat s l) t.pairs)

    pub top-stays : StaysLater top
    top-stays = record {
      count = length-map-range_with_len top_at 0 (element_count t.flat);
      each = λ l h.
          ⊎_elim
          (λ flop. omega (arith, ints, early-flop top l flop, top-flop l h flop))
          (λ latch. subst (λ v. v ≤ℤ departure top l) (sym (early-latch top l latch)) (stays_latch l h latch))
          (cases_Bool (element_at t.flat l).flop);
    }

    -- A schedule with exact departures has early ones.
    pub exact_has_early : (early : List ℤ) × AreEarly t s early
    exact_has_early = early_exist top top-stays

lesser-low : (v : ℤ) (o : Option ℤ) → lesser_of v o ≤ℤ v
lesser-low v o = grind (arith, ints, clamps)

-- the least number of the items that pass is at most that of each
pub least-at : {X : Type 0} (f : X → ℤ) (test : X → Bool) (xs : List X) (n : ℕ) (d : X) → n < length xs → test (get_or xs n d) ≡ true →
    (a : ℤ) × (least_of (map f (filter test xs)) ≡ Some a) × (a ≤ℤ f (get_or xs n d))
least-at f test [] n d below passes = absurd (omega arith)
least-at f test (x ∷ xs) zero d below passes = by (test x) passes
  where
    by : (b : Bool) → b ≡ true → (a : ℤ) × (least_of (map f (cond b (x ∷ filter test xs) (filter test xs))) ≡ Some a) × (a ≤ℤ f x)
    by true e = (lesser_of (f x) (least_of (map f (filter test xs))), refl, lesser-low (f x) (least_of (map f (filter test xs))))
    by false e = absurd (let both : false ≡ true = e in cc)
least-at f test (x ∷ xs) (suc n) d below passes = by (test x) (least-at f test xs n d (omega arith) passes)
  where
    by : (b : Bool) → (a : ℤ) × (least_of (map f (filter test xs)) ≡ Some a) × (a ≤ℤ f (get_or xs n d)) →
        (a : ℤ) × (least_of (map f (cond b (x ∷ filter test xs) (filter test xs))) ≡ Some a) × (a ≤ℤ f (get_or xs n d))
    by true w = (int_min (f x) w.0, ap (λ o. Some (lesser_of (f x) o)) w.1, omega (arith, ints, clamps, w.2))
    by false w = w
