-- the sizes of delays, travels and starts
use Rattle.std.proofs.Common.{ℕ, ◌-◌, ◌<◌, ℤ, pos, ◌+ℤ◌, ◌-ℤ◌, ◌*ℤ◌, ◌≤ℤ◌, List, [], ◌∷◌, length, get_or, arith, ⊎_elim}
use Rattle.std.proofs.lemmas.Int.{ints}
use Rattle.std.proofs.lemmas.Bool.{cases_Bool, cases_lt}
use Rattle.mintc_graph_walks.specs.Bounds.{IsWithin}
use Rattle.mintc_graph_walks.proofs.SharedWithin.{IsWithin-product}
use Rattle.mintc_timing.specs.declared.clocking.Schedule.{Schedule}
use Rattle.mintc_timing.specs.declared.parts.Pair.{Pair}
use Rattle.mintc_timing.specs.declared.parts.TimingArc.{TimingArc}
use Rattle.mintc_timing.specs.Design.{Design, Timing, element_at, element_count, pair_at, phase_count, no_element, no_pair, no_arc}
use Rattle.mintc_timing.specs.Clocking.{start_of, shift_of}
use Rattle.mintc_timing.specs.Departures.{late_opening}
use Rattle.mintc_timing.specs.Limits.{IsDesign, IsElement, IsPhase, IsNumerator, IsDenominator, IsDelay}
use Rattle.mintc_timing.specs.Order.{IsTiming}
use Rattle.mintc_timing.specs.Paths.{HasExtremes, Leads, arc_at, greatest_delay, least_delay}
use Rattle.mintc_timing.proofs.SharedRanges.{pair-max_range}
use Rattle.mintc_timing.proofs.SharedShifts.{shift-below, shift-not_below}
use Rattle.mintc_departure.specs.Clocked.{IsClocked}
use Rattle.mintc_departure.specs.Networks.{late_start_of, late_travel, arc_of}

pub scaled-within : (x den : ℤ) → IsWithin 2000000000 x → IsDenominator den → IsWithin 200000000000000 (x *ℤ den)
scaled-within x den h d =
    let k : IsWithin 100000 den = (omega (arith, ints), omega (arith, ints)) in
    IsWithin-product 2000000000 100000 x den h k

module _ (t : Timing) (s : Schedule) (fits : IsClocked t s) where
  pub element_in_range : (l : ℕ) → l < element_count t.flat → IsElement (phase_count t.flat) (element_at t.flat l)
  element_in_range l h = fits.design.each_element l no_element h

  pub pair_ends : (n : ℕ) → n < length t.pairs → HasExtremes t.flat (pair_at t n)
  pair_ends n h = fits.timing.extremes.each n no_pair h

  pub start-range : (p : ℕ) → IsPhase (phase_count t.flat) p → IsNumerator (start_of s p)
  start-range p h = fits.range.starts (p - 1) (pos 0) (omega arith)

  pub shift-within : (i j : ℕ) → IsPhase (phase_count t.flat) i → IsPhase (phase_count t.flat) j → IsWithin 200000000000000 (shift_of s i j)
  shift-within i j h k =
      let a = start-range i h in
      let b = start-range j k in
      ⊎_elim
      (λ e. rw (shift-below s i j e) (omega (arith, ints), omega (arith, ints)))
      (λ e. rw (shift-not_below s i j e) (omega (arith, ints), omega (arith, ints)))
      (cases_lt i j)

  pub shifted_delay-within : (n : ℕ) → n < length t.pairs → IsWithin 400000000000000 (late_travel t.flat s (pair_at t n))
  shifted_delay-within n h =
      let ends = pair_ends n h in
      let from = element_in_range (pair_at t n).from ends.from in
      let to = element_in_range (pair_at t n).to ends.to in
      let max : IsDelay (pair_at t n).max = pair-max_range t.flat t.order t.pairs fits.design fits.timing n no_pair h in
      let delay : IsWithin 2000000000 ((element_at t.flat (pair_at t n).from).dq_max +ℤ (pair_at t n).max) = (omega (arith, ints), omega (arith, ints)) in
      let span = scaled-within _ s.den delay fits.range.den in
      let shift = shift-within _ _ from.phase to.phase in
      (omega (arith, ints), omega (arith, ints))

  pub opening-within : (l : ℕ) → l < element_count t.flat → IsWithin 100000000000000 (late_opening t.flat s l)
  opening-within l h =
      let e = element_in_range l h in
      let delay : IsWithin 1000000000 ((element_at t.flat l).cq_max -ℤ (element_at t.flat l).dq_max) = (omega (arith, ints), omega (arith, ints)) in
      let den : IsWithin 100000 s.den = (omega (arith, ints), omega (arith, ints)) in
      IsWithin-product 1000000000 100000 _ s.den delay den

  pub start-within : (l : ℕ) → l < element_count t.flat → IsWithin 100000000000000 (late_start_of t.flat s l)
  start-within l h = ⊎_elim (λ e. rw e (omega (arith, ints), omega (arith, ints))) (λ e. rw e (opening-within l h)) (cases_Bool (element_at t.flat l).flop)

  pub weight-within : (n : ℕ) → n < length t.pairs → IsWithin 400000000000000 (arc_of t.flat s (pair_at t n)).weight
  weight-within n h =
      ⊎_elim (λ e. rw e (omega (arith, ints), omega (arith, ints))) (λ e. rw e (shifted_delay-within n h)) (cases_Bool (element_at t.flat (pair_at t n).to).flop)

-- Along a path of arcs the least delay is not negative, and at most the greatest one.
delays_ordered : (arcs : List TimingArc) → ((n : ℕ) → n < length arcs → (pos 0 ≤ℤ (arc_at arcs n).min) × ((arc_at arcs n).min ≤ℤ (arc_at arcs n).max)) →
    (from : ℕ) (path : List ℕ) (to : ℕ) → Leads arcs from path to → (pos 0 ≤ℤ least_delay arcs path) × (least_delay arcs path ≤ℤ greatest_delay arcs path)
delays_ordered arcs each from [] to h = (omega (arith, ints), omega (arith, ints))
delays_ordered arcs each from (n ∷ path) to h =
    let here = each n h.0 in
    let rest = delays_ordered arcs each (arc_at arcs n).to path to h.2 in
    (omega (arith, ints), omega (arith, ints))

pub pair-min_order : (flat : Design) (order : List ℕ) (pairs : List Pair) → IsDesign flat → IsTiming flat order pairs → (n : ℕ) (d : Pair) → n < length pairs →
    (pos 0 ≤ℤ (get_or pairs n d).min) × ((get_or pairs n d).min ≤ℤ (get_or pairs n d).max)
pair-min_order flat order pairs limits kept n d h =
    let named = kept.extremes.each n d h in
    let some = named.least.attained in
    let ordered = delays_ordered flat.arcs (λ k g. let arc = limits.each_arc k no_arc g in (arc.min.0, arc.ordered)) _ some.0 _ some.1.1 in
    let most = named.greatest.bound some.0 some.1 in
    (omega (arith, ints), omega (arith, ints))

pub pair-min_range : (flat : Design) (order : List ℕ) (pairs : List Pair) → IsDesign flat → IsTiming flat order pairs → (n : ℕ) (d : Pair) → n < length pairs → IsDelay (get_or pairs n d).min
pair-min_range flat order pairs limits kept n d h =
    let ordered = pair-min_order flat order pairs limits kept n d h in
    let max : IsDelay (get_or pairs n d).max = pair-max_range flat order pairs limits kept n d h in
    (omega (arith, ints), omega (arith, ints))
