-- Where there are late departures there are early ones: their rounds rise, and leave no output later than it leaves at
-- the latest.
use Rattle.std.proofs.Common.{◌≡◌, ℕ, zero, suc, ◌<◌, ◌==◌, ℤ, pos, ◌+ℤ◌, ◌-ℤ◌, ◌*ℤ◌, ◌≤ℤ◌, true, false, List, [], ◌∷◌, length, arith, sym, ap, ◌∙◌, subst, ◌⊎◌, ⊎_elim}
use Rattle.std.proofs.lemmas.Int.{ints}
use Rattle.std.proofs.lemmas.Bool.{cases_Bool, eqb-true}
use Rattle.mintc_timing.specs.declared.parts.Pair.{Pair}
use Rattle.mintc_timing.specs.declared.parts.TimingArc.{TimingArc}
use Rattle.mintc_timing.specs.declared.clocking.Schedule.{Schedule}
use Rattle.mintc_timing.specs.Design.{Timing, element_at, element_count, pair_at, phase_count, no_arc, no_element, no_pair}
use Rattle.mintc_timing.specs.Departures.{departure, into, early_arrival, early_arrivals, early_opening, early_departure, late_arrival, late_opening, AreEarly, AreLate}
use Rattle.mintc_timing.specs.Extremes.{greater_of, least_of}
use Rattle.mintc_timing.specs.Limits.{IsDesign, IsElement}
use Rattle.mintc_timing.specs.Paths.{ArePairs, HasExtremes, Leads, arc_at, greatest_delay, least_delay}
use Rattle.mintc_timing.proofs.SharedDepartureLaws.{late_departure-flop}
use Rattle.mintc_timing.proofs.SharedLoops.{arrival-at_most}
use Rattle.mintc_timing.proofs.SharedProducts.{add-times, times-mono_positive}
use Rattle.mintc_departure.specs.Networks.{late_start_of}
use Rattle.mintc_departure.specs.Travels.{early_start_of, early_travel}
use Rattle.mintc_departure.proofs.SharedLesser.{greater-mono, greater-from, greater-some, least-mono}
use Rattle.mintc_departure_laws.specs.Existence.{LateHaveEarly}
use Rattle.mintc_departure_laws.proofs.LateLaws.{start-low}
use Rattle.mintc_departure_laws.proofs.Rounds.{round, round-count, round-first, round-next, round-below, IsStill, still-exact, settles}

-- Along a path of arcs the least delay is at most the greatest one.
delays_ordered : (arcs : List TimingArc) → ((n : ℕ) → n < length arcs → (arc_at arcs n).min ≤ℤ (arc_at arcs n).max) → (from : ℕ) (path : List ℕ) (to : ℕ) → Leads arcs from path to →
    least_delay arcs path ≤ℤ greatest_delay arcs path
delays_ordered arcs each from [] to h = omega (arith, ints)
delays_ordered arcs each from (n ∷ path) to h =
    let here = each n h.0 in
    let rest = delays_ordered arcs each (arc_at arcs n).to path to h.2 in
    omega (arith, ints)

-- a delay and the one before it, times the denominator
opening-sum : (cq dq den : ℤ) → (cq -ℤ dq) *ℤ den +ℤ dq *ℤ den ≡ cq *ℤ den
opening-sum cq dq den =
    let whole : (cq -ℤ dq) +ℤ dq ≡ cq = omega (arith, ints) in
    sym (add-times (cq -ℤ dq) dq den) ∙ ap (λ v. v *ℤ den) whole

below_top : (x q z : ℤ) → (x +ℤ q) ≤ℤ z → x ≤ℤ (z -ℤ q)
below_top x q z h = omega (arith, ints)

module _ (t : Timing) (s : Schedule) where
  early-arrival-is : (d : List ℤ) (p : Pair) → early_arrival t.flat s d p ≡ departure d p.from +ℤ early_travel t.flat s p
  early-arrival-is d p = omega (arith, ints)

  arrival-mono : (d e : List ℤ) (p : Pair) → departure d p.from ≤ℤ departure e p.from → early_arrival t.flat s d p ≤ℤ early_arrival t.flat s e p
  arrival-mono d e p h = rw (early-arrival-is d p, early-arrival-is e p) (omega (arith, ints))

  -- Departures that are nowhere later ask for departures that are nowhere later,
  early-mono : (d e : List ℤ) → ((l : ℕ) → departure d l ≤ℤ departure e l) → (l : ℕ) → early_departure t s d l ≤ℤ early_departure t s e l
  early-mono d e h l =
      ⊎_elim
      (λ flop. rw flop (omega (arith, ints)))
      (λ latch. rw latch (greater-mono (early_opening t.flat s l) _ _
      (least-mono (early_arrival t.flat s d) (early_arrival t.flat s e) (λ p. arrival-mono d e p (h p.from)) (into t l))))
      (cases_Bool (element_at t.flat l).flop)

  -- and any ask for at least those where no data reaches an element.
  start-least : (d : List ℤ) (l : ℕ) → early_start_of t.flat s l ≤ℤ early_departure t s d l
  start-least d l =
      ⊎_elim
      (λ flop. rw flop (omega (arith, ints)))
      (λ latch. rw latch (greater-from (early_opening t.flat s l) (least_of (early_arrivals t s d l))))
      (cases_Bool (element_at t.flat l).flop)

module _ (t : Timing) (s : Schedule) (late : List ℤ) (limits : IsDesign t.flat) (pairs : ArePairs t.flat t.pairs) (positive : pos 1 ≤ℤ s.den) (are_late : AreLate t s late) where
  abbrev count : ℕ
  count = element_count t.flat

  element_in_range : (l : ℕ) → l < count → IsElement (phase_count t.flat) (element_at t.flat l)
  element_in_range l h = limits.each_element l no_element h

  pair_ends : (n : ℕ) → n < length t.pairs → HasExtremes t.flat (pair_at t n)
  pair_ends n h = pairs.each n no_pair h

  pair_order : (n : ℕ) → n < length t.pairs → (pair_at t n).min ≤ℤ (pair_at t n).max
  pair_order n h =
      let named = pair_ends n h in
      let some = named.least.attained in
      let ordered = delays_ordered t.flat.arcs (λ k g. (limits.each_arc k no_arc g).ordered) _ some.0 _ some.1.1 in
      let is = some.2 in
      let most = named.greatest.bound some.0 some.1 in
      omega (arith, ints)

  dq-grow : (l : ℕ) → l < count → ((element_at t.flat l).dq_min *ℤ s.den) ≤ℤ ((element_at t.flat l).dq_max *ℤ s.den)
  dq-grow l h = times-mono_positive _ _ s.den (element_in_range l h).dq positive

  above_start : (l : ℕ) → l < count → late_start_of t.flat s l ≤ℤ departure late l
  above_start l h = subst (λ x. late_start_of t.flat s l ≤ℤ x) (sym (are_late.exact.each l h)) (start-low t s late l)

  start-before : (l : ℕ) → l < count →
      (early_start_of t.flat s l +ℤ (element_at t.flat l).dq_min *ℤ s.den) ≤ℤ (departure late l +ℤ (element_at t.flat l).dq_max *ℤ s.den)
  start-before l h =
      let e = element_at t.flat l in
      let starts = above_start l h in
      let grow = dq-grow l h in
      ⊎_elim
      (λ flop. rw (are_late.exact.each l h ∙ late_departure-flop t s late l flop, flop) (omega (arith, ints)))
      (λ latch.
      let opens : late_opening t.flat s l ≤ℤ departure late l = rw latch at starts in
      let low = opening-sum e.cq_min e.dq_min s.den in
      let high = opening-sum e.cq_max e.dq_max s.den in
      let cq = times-mono_positive e.cq_min e.cq_max s.den (element_in_range l h).cq positive in
      rw latch (omega (arith, ints)))
      (cases_Bool e.flop)

  -- What arrives early is there before what arrives late.
  arrival-before : (d : List ℤ) (n : ℕ) → n < length t.pairs →
      (departure d (pair_at t n).from +ℤ (element_at t.flat (pair_at t n).from).dq_min *ℤ s.den) ≤ℤ (departure late (pair_at t n).from +ℤ (element_at t.flat (pair_at t n).from).dq_max *ℤ s.den) →
      early_arrival t.flat s d (pair_at t n) ≤ℤ late_arrival t.flat s late (pair_at t n)
  arrival-before d n h before =
      let p = pair_at t n in
      let from = element_at t.flat p.from in
      let low = add-times from.dq_min p.min s.den in
      let high = add-times from.dq_max p.max s.den in
      let grow = times-mono_positive p.min p.max s.den (pair_order n h) positive in
      omega (arith, ints)

  round-before : (d : List ℤ) →
      ((l : ℕ) → l < count → (departure d l +ℤ (element_at t.flat l).dq_min *ℤ s.den) ≤ℤ (departure late l +ℤ (element_at t.flat l).dq_max *ℤ s.den)) →
      (l : ℕ) → l < count → (early_departure t s d l +ℤ (element_at t.flat l).dq_min *ℤ s.den) ≤ℤ (departure late l +ℤ (element_at t.flat l).dq_max *ℤ s.den)
  round-before d before l h =
      ⊎_elim
      (λ flop. rw flop (rw flop at (start-before l h)))
      (λ latch.
      rw latch
      (⊎_elim
      (λ opens. rw opens (rw latch at (start-before l h)))
      (by_arrival latch)
      (greater-some (early_arrival t.flat s d) (λ (p : Pair). p.to == l) no_pair (early_opening t.flat s l) t.pairs)))
      (cases_Bool (element_at t.flat l).flop)
    where
      leaves : ℤ
      leaves = greater_of (early_opening t.flat s l) (least_of (early_arrivals t s d l))

      by_arrival : (element_at t.flat l).flop ≡ false → (n : ℕ) × (n < length t.pairs) × ((pair_at t n).to == l ≡ true) × (leaves ≡ early_arrival t.flat s d (pair_at t n)) →
          (leaves +ℤ (element_at t.flat l).dq_min *ℤ s.den) ≤ℤ (departure late l +ℤ (element_at t.flat l).dq_max *ℤ s.den)
      by_arrival latch w =
          let n = w.0 in
          let to : (pair_at t n).to ≡ l = eqb-true _ _ w.2 in
          let ends = pair_ends n w.1 in
          let P : ℕ → Type 0 = λ m. late_arrival t.flat s late (pair_at t n) ≤ℤ departure late m in
          let there = subst P to (arrival-at_most t s late are_late.exact pairs.each n no_pair w.1 (rw to latch)) in
          let first = arrival-before d n w.1 (before (pair_at t n).from ends.from) in
          let grow = dq-grow l h in
          rw w.3 (omega (arith, ints))

  -- the early departures after so many rounds
  abbrev after : ℕ → List ℤ
  after k = round count (early_start_of t.flat s) (early_departure t s) k

  abbrev IsBefore : ℕ → ℤ → Type 0
  IsBefore l x = (x +ℤ (element_at t.flat l).dq_min *ℤ s.den) ≤ℤ (departure late l +ℤ (element_at t.flat l).dq_max *ℤ s.den)

  after-before : (k l : ℕ) → l < count → IsBefore l (departure (after k) l)
  after-before zero l h = subst (IsBefore l) (sym (round-first count (early_start_of t.flat s) (early_departure t s) l h)) (start-before l h)
  after-before (suc k) l h = subst (IsBefore l) (sym (round-next count (early_start_of t.flat s) (early_departure t s) k l h)) (round-before (after k) (after-before k) l h)

  abbrev top : ℕ → ℤ
  top l = (departure late l +ℤ (element_at t.flat l).dq_max *ℤ s.den) -ℤ (element_at t.flat l).dq_min *ℤ s.den

  last : (j : ℕ) × IsStill count (early_start_of t.flat s) (early_departure t s) (start-least t s) (early-mono t s) j
  last =
      settles count (early_start_of t.flat s) (early_departure t s) (start-least t s) (early-mono t s) top
      (λ k l h. below_top (departure (after k) l) ((element_at t.flat l).dq_min *ℤ s.den) (departure late l +ℤ (element_at t.flat l).dq_max *ℤ s.den) (after-before k l h))

  early : (early : List ℤ) × AreEarly t s early
  early = (
    after last.0,
    record {
      exact = record {
        count = round-count count (early_start_of t.flat s) (early_departure t s) last.0;
        each = still-exact count (early_start_of t.flat s) (early_departure t s) (start-least t s) (early-mono t s) last.0 last.1;
      };
      least = λ e exact l h. round-below count (early_start_of t.flat s) (early_departure t s) (start-least t s) (early-mono t s) e exact.count exact.each last.0 l;
    },
  )

pub late_have_early_lem : LateHaveEarly
late_have_early_lem t s late limits pairs positive are_late = early t s late limits pairs positive are_late
