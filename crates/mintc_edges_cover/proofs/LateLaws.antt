-- The departures of the design that covers, carried to the design that it covers, stay above what they make.
use Rattle.std.proofs.Common.{◌≡◌, ℕ, ◌<◌, ◌==◌, ℤ, pos, ◌≤ℤ◌, ◌+ℤ◌, ◌-ℤ◌, ◌*ℤ◌, Bool, true, false, List, map, length, ◌⊎◌, ⊎_elim, arith, sym, ap, ◌∙◌, subst, cond}
use Rattle.std.proofs.lemmas.Int.{ints, clamps}
use Rattle.std.proofs.lemmas.Bool.{cases_Bool, eqb-true}
use Rattle.std.proofs.lemmas.List.FromFn.{length-map-range_with_len, get_or-map-range_with_len}
use Rattle.std.proofs.lemmas.List.Elements.{All-contains}
use Rattle.std.specs.Int.{int_max}
use Rattle.mintc_timing.specs.declared.parts.Pair.{Pair}
use Rattle.mintc_timing.specs.declared.clocking.Schedule.{Schedule}
use Rattle.mintc_timing.specs.Clocking.{shift_of}
use Rattle.mintc_timing.specs.Design.{Timing, element_at, element_count, phase_of}
use Rattle.mintc_timing.specs.Departures.{departure, late_arrival, late_arrivals, late_opening, AreExact}
use Rattle.mintc_timing.specs.Extremes.{greater_of, greatest_of}
use Rattle.mintc_timing.specs.Paths.{ArePairs, HasExtremes}
use Rattle.mintc_timing.specs.Violations.{elements_of}
use Rattle.mintc_timing.proofs.SharedDepartureLaws.{late_departure-latch, late_departure-flop}
use Rattle.mintc_timing.proofs.SharedExtremesLaws.{greatest_is, greater-attained}
use Rattle.mintc_timing.proofs.SharedLoops.{arrival-at_most}
use Rattle.mintc_timing.proofs.SharedProducts.{add-times, times-mono_positive}
use Rattle.mintc_departure.proofs.SharedLesser.{greater-from}
use Rattle.mintc_edges_cover.specs.Cover.{IsCover, PairLiesOn}
use Rattle.mintc_edges_cover.proofs.SharedPathLaws.{pair_covered}
use Rattle.mintc_edges_cover.proofs.SharedArrivalLaws.{StaysAbove, Exact, lowered_to_exact}

-- a delay and the one before it, times the denominator
pub opening-sum : (cq dq den : ℤ) → (cq -ℤ dq) *ℤ den +ℤ dq *ℤ den ≡ cq *ℤ den
opening-sum cq dq den =
    let whole : (cq -ℤ dq) +ℤ dq ≡ cq = omega (arith, ints) in
    sym (add-times (cq -ℤ dq) dq den) ∙ ap (λ v. v *ℤ den) whole

module _ (other t : Timing) (cover : IsCover other.flat t.flat) (wider : ArePairs other.flat other.pairs) (pairs : ArePairs t.flat t.pairs)
    (s : Schedule) (some : pos 1 ≤ℤ s.den) (d : List ℤ) (exact : AreExact other s d) where
  -- An element departs when the one on which it lies does; a latch no sooner than it opens.
  abbrev carried_at : ℕ → ℤ
  carried_at m = cond (element_at t.flat m).flop (pos 0) (int_max (late_opening t.flat s m) (departure d (cover.element_on m)))

  abbrev pub carried : List ℤ
  carried = map carried_at (elements_of t.flat)

  carried-count : length carried ≡ element_count t.flat
  carried-count = length-map-range_with_len carried_at 0 (element_count t.flat)

  carried-is : (m : ℕ) → m < element_count t.flat → departure carried m ≡ carried_at m
  carried-is m h = get_or-map-range_with_len carried_at 0 (element_count t.flat) m m (pos 0) h (omega arith)

  pub carried-flop : (m : ℕ) → m < element_count t.flat → (element_at t.flat m).flop ≡ true → departure carried m ≡ pos 0
  carried-flop m h flop = carried-is m h ∙ ap (λ (b : Bool). cond b (pos 0) (int_max (late_opening t.flat s m) (departure d (cover.element_on m)))) flop

  pub carried-latch : (m : ℕ) → m < element_count t.flat → (element_at t.flat m).flop ≡ false →
      departure carried m ≡ int_max (late_opening t.flat s m) (departure d (cover.element_on m))
  carried-latch m h latch = carried-is m h ∙ ap (λ (b : Bool). cond b (pos 0) (int_max (late_opening t.flat s m) (departure d (cover.element_on m)))) latch

  pub other_flop : (m : ℕ) → m < element_count t.flat → (element_at t.flat m).flop ≡ true → departure d (cover.element_on m) ≡ pos 0
  other_flop m h flop =
      let k = cover.there m h in
      exact.each (cover.element_on m) k ∙ late_departure-flop other s d (cover.element_on m) (sym (cover.elements m h).flop ∙ flop)

  pub other_opens : (m : ℕ) → m < element_count t.flat → (element_at t.flat m).flop ≡ false →
      late_opening other.flat s (cover.element_on m) ≤ℤ departure d (cover.element_on m)
  other_opens m h latch =
      let k = cover.there m h in
      let is = exact.each (cover.element_on m) k ∙ late_departure-latch other s d (cover.element_on m) (sym (cover.elements m h).flop ∙ latch) in
      subst (λ v. late_opening other.flat s (cover.element_on m) ≤ℤ v) (sym is)
      (greater-from (late_opening other.flat s (cover.element_on m)) (greatest_of (late_arrivals other s d (cover.element_on m))))

  -- The output comes no later than that of the element on which it lies.
  outputs-kept : (m : ℕ) → m < element_count t.flat →
      (departure carried m +ℤ (element_at t.flat m).dq_max *ℤ s.den)
      ≤ℤ (departure d (cover.element_on m) +ℤ (element_at other.flat (cover.element_on m)).dq_max *ℤ s.den)
  outputs-kept m h =
      let e = element_at t.flat m in
      let o = element_at other.flat (cover.element_on m) in
      let within = cover.elements m h in
      let dq = times-mono_positive e.dq_max o.dq_max s.den within.dq_max some in
      let cq = times-mono_positive e.cq_max o.cq_max s.den within.cq_max some in
      let own = opening-sum e.cq_max e.dq_max s.den in
      let theirs = opening-sum o.cq_max o.dq_max s.den in
      ⊎_elim
      (λ flop. omega (arith, ints, carried-flop m h flop, other_flop m h flop, dq))
      (λ latch. omega (arith, ints, clamps, carried-latch m h latch, other_opens m h latch, dq, cq, own, theirs))
      (cases_Bool e.flop)

  -- So data arrives no later along a pair than along the one on which that lies.
  pub arrival-kept : (p q : Pair) → p.from < element_count t.flat → p.to < element_count t.flat → PairLiesOn cover.element_on p q →
      late_arrival t.flat s carried p ≤ℤ late_arrival other.flat s d q
  arrival-kept p q from to lies =
      let out = subst (λ v. (departure carried p.from +ℤ (element_at t.flat p.from).dq_max *ℤ s.den) ≤ℤ (departure d v +ℤ (element_at other.flat v).dq_max *ℤ s.den)) (sym lies.from) (outputs-kept p.from from) in
      let first : phase_of t.flat p.from ≡ phase_of other.flat q.from = (cover.elements p.from from).phase ∙ ap (phase_of other.flat) (sym lies.from) in
      let second : phase_of t.flat p.to ≡ phase_of other.flat q.to = (cover.elements p.to to).phase ∙ ap (phase_of other.flat) (sym lies.to) in
      let shift : shift_of s (phase_of t.flat p.from) (phase_of t.flat p.to) ≡ shift_of s (phase_of other.flat q.from) (phase_of other.flat q.to) =
      ap (λ i. shift_of s i (phase_of t.flat p.to)) first ∙ ap (shift_of s (phase_of other.flat q.from)) second in
      let own = add-times (element_at t.flat p.from).dq_max p.max s.den in
      let theirs = add-times (element_at other.flat q.from).dq_max q.max s.den in
      let more = times-mono_positive p.max q.max s.den lies.max some in
      omega (arith, ints, out, shift, own, theirs, more)

  -- Along a pair into a latch data arrives no later than the latch departs on which that latch lies.
  arrives : (p : Pair) → HasExtremes t.flat p → (element_at t.flat p.to).flop ≡ false →
      late_arrival t.flat s carried p ≤ℤ departure d (cover.element_on p.to)
  arrives p ex latch =
      let q = pair_covered other.flat t.flat cover other.pairs wider p ex in
      let kept = arrival-kept p q.1 ex.from ex.to q.4 in
      let flop : (element_at other.flat q.1.to).flop ≡ false = ap (λ v. (element_at other.flat v).flop) q.4.to ∙ sym (cover.elements p.to ex.to).flop ∙ latch in
      let there : late_arrival other.flat s d q.1 ≤ℤ departure d q.1.to =
      subst (λ (x : Pair). (element_at other.flat x.to).flop ≡ false → late_arrival other.flat s d x ≤ℤ departure d x.to) q.3
      (arrival-at_most other s d exact wider.each q.0 q.1 q.2) flop in
      let to : departure d q.1.to ≡ departure d (cover.element_on p.to) = ap (departure d) q.4.to in
      omega (arith, ints, kept, there, to)

  stays_latch : (l : ℕ) → l < element_count t.flat → (element_at t.flat l).flop ≡ false →
      greater_of (late_opening t.flat s l) (greatest_of (late_arrivals t s carried l)) ≤ℤ departure carried l
  stays_latch l h latch =
      ⊎_elim
      (λ opens. omega (arith, ints, clamps, opens, carried-latch l h latch))
      (λ w.
      let ex : HasExtremes t.flat w.1 = All-contains (HasExtremes t.flat) t.pairs w.1 pairs.each (w.0, w.2, w.3) in
      let to : w.1.to ≡ l = eqb-true _ _ w.4.0 in
      let comes = arrives w.1 ex (ap (λ v. (element_at t.flat v).flop) to ∙ latch) in
      let there : departure d (cover.element_on w.1.to) ≡ departure d (cover.element_on l) = ap (λ v. departure d (cover.element_on v)) to in
      omega (arith, ints, clamps, w.4.1, comes, there, carried-latch l h latch))
      (greater-attained (late_arrival t.flat s carried) (λ (p : Pair). p.to == l) (late_opening t.flat s l) t.pairs (greatest_of (late_arrivals t s carried l))
      (greatest_is (late_arrival t.flat s carried) (λ (p : Pair). p.to == l) t.pairs))

  pub carried-stays : StaysAbove t s carried
  carried-stays = record {
    count = carried-count;
    each = λ l h.
        ⊎_elim
        (λ flop. omega (arith, ints, late_departure-flop t s carried l flop, carried-flop l h flop))
        (λ latch. subst (λ v. v ≤ℤ departure carried l) (sym (late_departure-latch t s carried l latch)) (stays_latch l h latch))
        (cases_Bool (element_at t.flat l).flop);
  }

  pub exact_below : Exact t s carried
  exact_below = lowered_to_exact t s carried carried-stays
