-- early departures: what a round makes of them, and why they rise to the least solution
use Rattle.std.proofs.Common.{◌≡◌, ℕ, ◌<◌, ◌==◌, ℤ, pos, ◌+ℤ◌, ◌-ℤ◌, ◌*ℤ◌, ◌≤ℤ◌, true, false, List, length, arith, sym, ap, ◌∙◌, ◌⊎◌, inl, ⊎_elim, subst}
use Rattle.std.proofs.lemmas.Int.{ints}
use Rattle.std.proofs.lemmas.Bool.{cases_Bool, cases_lt, eqb-true}
use Rattle.std.proofs.lemmas.List.{get_or_past, ext_get_or}
use Rattle.mintc_graph_walks.specs.Bounds.{IsWithin}
use Rattle.mintc_timing.specs.declared.parts.Pair.{Pair}
use Rattle.mintc_timing.specs.declared.clocking.Schedule.{Schedule}
use Rattle.mintc_timing.specs.Design.{Timing, element_at, element_count, pair_at, no_pair}
use Rattle.mintc_timing.specs.Departures.{departure, into, early_arrival, early_arrivals, early_opening, early_departure, late_arrival, late_opening, AreEarly, AreAtMost, AreLate}
use Rattle.mintc_timing.specs.Extremes.{greater_of, least_of}
use Rattle.mintc_timing.proofs.SharedDepartureLaws.{late_departure-flop}
use Rattle.mintc_timing.proofs.SharedLoops.{arrival-at_most}
use Rattle.mintc_timing.proofs.SharedProducts.{add-times, times-mono_positive}
use Rattle.mintc_departure.specs.Clocked.{IsClocked}
use Rattle.mintc_departure.specs.Rounds.{AreSums, AreRising}
use Rattle.mintc_departure.specs.Travels.{early_start_of, early_travel}
use Rattle.mintc_departure.specs.Settled.{IsSum}
use Rattle.mintc_departure.proofs.LateSizes.{late-within}
use Rattle.mintc_departure.proofs.SharedLesser.{greater-mono, greater-from, greater-some, least-mono}
use Rattle.mintc_departure.proofs.NetworkLaws.{exact-starts}
use Rattle.mintc_graph_walks.proofs.SharedWithin.{IsWithin-product}
use Rattle.mintc_departure.proofs.SharedSizes.{element_in_range, pair_ends, pair-min_order}

module _ (t : Timing) (s : Schedule) where
  pub early-arrival-is : (d : List ℤ) (p : Pair) → early_arrival t.flat s d p ≡ departure d p.from +ℤ early_travel t.flat s p
  early-arrival-is d p = omega (arith, ints)

  -- Departures that are nowhere later make departures that are nowhere later.
  arrival-mono : (d e : List ℤ) (p : Pair) → departure d p.from ≤ℤ departure e p.from → early_arrival t.flat s d p ≤ℤ early_arrival t.flat s e p
  arrival-mono d e p h = rw (early-arrival-is d p, early-arrival-is e p) (omega (arith, ints))

  early-mono : (d e : List ℤ) → ((l : ℕ) → departure d l ≤ℤ departure e l) → (l : ℕ) → early_departure t s d l ≤ℤ early_departure t s e l
  early-mono d e h l =
      ⊎_elim
      (λ flop. rw flop (omega (arith, ints)))
      (λ latch. rw latch (greater-mono (early_opening t.flat s l) _ _
      (least-mono (early_arrival t.flat s d) (early_arrival t.flat s e) (λ p. arrival-mono d e p (h p.from)) (into t l))))
      (cases_Bool (element_at t.flat l).flop)

  start-least : (d : List ℤ) (l : ℕ) → early_start_of t.flat s l ≤ℤ early_departure t s d l
  start-least d l =
      ⊎_elim
      (λ flop. rw flop (omega (arith, ints)))
      (λ latch. rw latch (greater-from (early_opening t.flat s l) (least_of (early_arrivals t s d l))))
      (cases_Bool (element_at t.flat l).flop)

  pub everywhere : (d e : List ℤ) → length d ≡ element_count t.flat → length e ≡ element_count t.flat → AreAtMost t.flat d e → (l : ℕ) → departure d l ≤ℤ departure e l
  everywhere d e p q h l =
      ⊎_elim
      (λ lt. h l lt)
      (λ past. rw (get_or_past d l (pos 0) (rw p past), get_or_past e l (pos 0) (rw q past)) (omega (arith, ints)))
      (cases_lt l (element_count t.flat))

-- The second departures are what the first make them.
abbrev pub IsRound : Timing → Schedule → List ℤ → List ℤ → Type 0
IsRound t s d e = (l : ℕ) → l < element_count t.flat → departure e l ≡ early_departure t s d l

-- a delay and the one before it, times the denominator
opening-sum : (cq dq den : ℤ) → (cq -ℤ dq) *ℤ den +ℤ dq *ℤ den ≡ cq *ℤ den
opening-sum cq dq den =
    let whole : (cq -ℤ dq) +ℤ dq ≡ cq = omega (arith, ints) in
    sym (add-times (cq -ℤ dq) dq den) ∙ ap (λ v. v *ℤ den) whole

module _ (t : Timing) (s : Schedule) (fits : IsClocked t s)
    (late : List ℤ) (are_late : AreLate t s late) where
  dq-grow : (l : ℕ) → l < element_count t.flat → ((element_at t.flat l).dq_min *ℤ s.den) ≤ℤ ((element_at t.flat l).dq_max *ℤ s.den)
  dq-grow l h = times-mono_positive _ _ s.den (element_in_range t s fits l h).dq fits.range.den.0

  start-before : (l : ℕ) → l < element_count t.flat →
      (early_start_of t.flat s l +ℤ (element_at t.flat l).dq_min *ℤ s.den) ≤ℤ (departure late l +ℤ (element_at t.flat l).dq_max *ℤ s.den)
  start-before l h =
      let e = element_at t.flat l in
      let starts = exact-starts t s late are_late.exact fits.timing.extremes.each l h in
      let grow = dq-grow l h in
      ⊎_elim
      (λ flop. rw (are_late.exact.each l h ∙ late_departure-flop t s late l flop, flop) (omega (arith, ints)))
      (λ latch.
      let opens : late_opening t.flat s l ≤ℤ departure late l = rw latch at starts in
      let low = opening-sum e.cq_min e.dq_min s.den in
      let high = opening-sum e.cq_max e.dq_max s.den in
      let cq = times-mono_positive e.cq_min e.cq_max s.den (element_in_range t s fits l h).cq fits.range.den.0 in
      rw latch (omega (arith, ints)))
      (cases_Bool e.flop)

  -- What arrives early is there before what arrives late.
  arrival-before : (d : List ℤ) (n : ℕ) → n < length t.pairs →
      (departure d (pair_at t n).from +ℤ (element_at t.flat (pair_at t n).from).dq_min *ℤ s.den) ≤ℤ (departure late (pair_at t n).from +ℤ (element_at t.flat (pair_at t n).from).dq_max *ℤ s.den) →
      early_arrival t.flat s d (pair_at t n) ≤ℤ late_arrival t.flat s late (pair_at t n)
  arrival-before d n h before =
      let p = pair_at t n in
      let from = element_at t.flat p.from in
      let low = add-times from.dq_min p.min s.den in
      let high = add-times from.dq_max p.max s.den in
      let grow = times-mono_positive p.min p.max s.den (pair-min_order t.flat t.order t.pairs fits.design fits.timing n no_pair h).1 fits.range.den.0 in
      omega (arith, ints)

  round-before : (d : List ℤ) →
      ((l : ℕ) → l < element_count t.flat → (departure d l +ℤ (element_at t.flat l).dq_min *ℤ s.den) ≤ℤ (departure late l +ℤ (element_at t.flat l).dq_max *ℤ s.den)) →
      (l : ℕ) → l < element_count t.flat → (early_departure t s d l +ℤ (element_at t.flat l).dq_min *ℤ s.den) ≤ℤ (departure late l +ℤ (element_at t.flat l).dq_max *ℤ s.den)
  round-before d before l h =
      ⊎_elim
      (λ flop. rw flop (rw flop at (start-before l h)))
      (λ latch.
      rw latch
      (⊎_elim
      (λ opens. rw opens (rw latch at (start-before l h)))
      (by_arrival latch)
      (greater-some (early_arrival t.flat s d) (λ (p : Pair). p.to == l) no_pair (early_opening t.flat s l) t.pairs)))
      (cases_Bool (element_at t.flat l).flop)
    where
      leaves : ℤ
      leaves = greater_of (early_opening t.flat s l) (least_of (early_arrivals t s d l))

      by_arrival : (element_at t.flat l).flop ≡ false → (n : ℕ) × (n < length t.pairs) × ((pair_at t n).to == l ≡ true) × (leaves ≡ early_arrival t.flat s d (pair_at t n)) →
          (leaves +ℤ (element_at t.flat l).dq_min *ℤ s.den) ≤ℤ (departure late l +ℤ (element_at t.flat l).dq_max *ℤ s.den)
      by_arrival latch w =
          let n = w.0 in
          let to : (pair_at t n).to ≡ l = eqb-true _ _ w.2 in
          let ends = pair_ends t s fits n w.1 in
          let P : ℕ → Type 0 = λ m. late_arrival t.flat s late (pair_at t n) ≤ℤ departure late m in
          let there = subst P to (arrival-at_most t s late are_late.exact fits.timing.extremes.each n no_pair w.1 (rw to latch)) in
          let first = arrival-before d n w.1 (before (pair_at t n).from ends.from) in
          let grow = dq-grow l h in
          rw w.3 (omega (arith, ints))

  -- The rounds begin where no data reaches an element ..
  pub rising-first : (d : List ℤ) → length d ≡ element_count t.flat → ((l : ℕ) → l < element_count t.flat → departure d l ≡ early_start_of t.flat s l) → AreRising t s late d
  rising-first d count starts = record {
    count = count;
    above = λ l h. rw (starts l h) (omega (arith, ints));
    rises = λ l h. rw (starts l h) (start-least t s d l);
    least = λ e exact l h. rw (starts l h, exact.each l h) (start-least t s e l);
    before = λ l h. rw (starts l h) (start-before l h);
  }

  -- .. and go on where each departure is what the others made it, or stays.
  pub rising-part : (d e : List ℤ) → AreRising t s late d → length e ≡ element_count t.flat →
      ((l : ℕ) → l < element_count t.flat → (departure e l ≡ early_departure t s d l) ⊎ (departure e l ≡ departure d l)) → AreRising t s late e
  rising-part d e rising count part =
      let up : AreAtMost t.flat d e = λ l h. ⊎_elim (λ is. rw is (rising.rises l h)) (λ is. rw is (omega (arith, ints))) (part l h) in
      let mono : (l : ℕ) → early_departure t s d l ≤ℤ early_departure t s e l = early-mono t s d e (everywhere t s d e rising.count count up) in
      record {
        count = count;
        above = λ l h. omega (arith, ints, rising.above l h, up l h);
        rises = λ l h. ⊎_elim (λ is. rw is (mono l)) (λ is. rw is (omega (arith, ints, rising.rises l h, mono l))) (part l h);
        least = λ f exact l h. ⊎_elim
            (λ is.
            subst (λ z. z ≤ℤ departure f l) (sym is)
            (subst (λ z. early_departure t s d l ≤ℤ z) (sym (exact.each l h)) (early-mono t s d f (everywhere t s d f rising.count exact.count (rising.least f exact)) l)))
            (λ is. rw is (rising.least f exact l h))
            (part l h);
        before = λ l h. ⊎_elim (λ is. rw is (round-before d rising.before l h)) (λ is. rw is (rising.before l h)) (part l h);
      }

  pub rising-more : (d e : List ℤ) → AreRising t s late d → length e ≡ element_count t.flat → IsRound t s d e → AreRising t s late e
  rising-more d e rising count round = rising-part d e rising count (λ l h. inl (round l h))

  -- Where a round changes nothing, it leaves the departures, and they are the early ones.
  pub rising-last : (d e : List ℤ) → AreRising t s late d → length e ≡ element_count t.flat → IsRound t s d e → IsRound t s d d → AreEarly t s e
  rising-last d e rising count round still =
      let same : e ≡ d = ext_get_or (pos 0) e d (count ∙ sym rising.count) (λ l h. let k : l < element_count t.flat = rw count at h in round l k ∙ sym (still l k)) in
      rw same (record { exact = record { count = rising.count; each = still }; least = rising.least })

  -- The numbers of each round are sums of few delays.
  pub rising-sums : (d : List ℤ) → AreRising t s late d → AreSums t.flat d
  rising-sums d rising = record { count = rising.count; each = sum }
    where
      times_den : (x : ℤ) → IsWithin 1000000000 x → IsWithin 100000000000000 (x *ℤ s.den)
      times_den x h = let r = fits.range.den in let den : IsWithin 100000 s.den = (omega (arith, ints), omega (arith, ints)) in IsWithin-product 1000000000 100000 x s.den h den

      start : (l : ℕ) → l < element_count t.flat → IsWithin 100000000000000 (early_start_of t.flat s l)
      start l h =
          let e = element_in_range t s fits l h in
          let delay : IsWithin 1000000000 ((element_at t.flat l).cq_min -ℤ (element_at t.flat l).dq_min) = (omega (arith, ints), omega (arith, ints)) in
          ⊎_elim
          (λ flop. rw flop (omega (arith, ints), omega (arith, ints)))
          (λ latch. rw latch (times_den _ delay))
          (cases_Bool (element_at t.flat l).flop)

      within : (x first z q r : ℤ) → first ≤ℤ x → (x +ℤ q) ≤ℤ (z +ℤ r) → IsWithin 100000000000000 first → IsWithin 100000000000000 q → IsWithin 100000000000000 r → IsWithin 8000100000000000000 z → IsSum x
      within x first z q r h k a b c e =
          (omega (arith, ints), omega (arith, ints))

      sum : (l : ℕ) → l < element_count t.flat → IsSum (departure d l)
      sum l h =
          let e = element_in_range t s fits l h in
          let q : IsWithin 1000000000 (element_at t.flat l).dq_min = (omega (arith, ints), omega (arith, ints)) in
          let r : IsWithin 1000000000 (element_at t.flat l).dq_max = (omega (arith, ints), omega (arith, ints)) in
          within (departure d l) (early_start_of t.flat s l) (departure late l) ((element_at t.flat l).dq_min *ℤ s.den) ((element_at t.flat l).dq_max *ℤ s.den) (rising.above l h) (rising.before l h) (start l h) (times_den _ q) (times_den _ r)
          (late-within t s fits late are_late l h)
