-- Each link of a design holds of a right schedule.
use Rattle.std.proofs.Common.{◌≡◌, ℕ, ◌<◌, ◌≤◌, ◌+◌, ◌==◌, ℤ, pos, ◌≤ℤ◌, ◌+ℤ◌, ◌-ℤ◌, ◌*ℤ◌, Bool, true, false, cond, IsTrue, List, length, get_or, arith, refl, ap, ◌∙◌}
use Rattle.std.proofs.lemmas.Int.{ints, clamps}
use Rattle.std.proofs.lemmas.List.{get_or_default}
use Rattle.mintc_timing.specs.declared.clocking.Schedule.{Schedule}
use Rattle.mintc_timing.specs.declared.parts.Pair.{Pair}
use Rattle.mintc_timing.specs.declared.parts.Bound.{Bound}
use Rattle.mintc_timing.specs.declared.parts.Point.{Point}
use Rattle.mintc_timing.specs.declared.parts.Point.TheVariants as point
use Rattle.mintc_timing.specs.Design.{Timing, phase_count, element_count, element_at, phase_of, pair_at, no_element, no_pair}
use Rattle.mintc_timing.specs.Clocking.{start_of, time_of, feeds_of}
use Rattle.mintc_timing.specs.Departures.{departure, late_arrival, late_opening}
use Rattle.mintc_timing.specs.Limits.{IsPhase, IsDesign, IsPoint}
use Rattle.mintc_timing.specs.Paths.{IsPath, ArePairs, HasEnds, greatest_delay, input_of}
use Rattle.mintc_timing.specs.Right.{IsRight}
use Rattle.mintc_timing.specs.Links.{start_node, element_node, output_node, point_node, start_link, cycle_link, order_link, span_link, width_link, apart_link, opening_link, opened_link, reach_link, setup_link, bound_link, earliest_end}
use Rattle.mintc_timing.specs.Times.{element_time, node_time, Meets}
use Rattle.mintc_timing.proofs.SharedTimesLaws.{node_time-start, node_time-end, node_time-element}
use Rattle.mintc_timing.proofs.SharedExtremesLaws.{greater-least}
use Rattle.mintc_timing.proofs.SharedArrivals.{latest, latest-arrives, each-from_greatest}
use Rattle.mintc_timing.proofs.SharedByKind.{EachKind}
use Rattle.mintc_timing.proofs.SharedDepartureLaws.{late_departure-latch, late_departure-flop}
use Rattle.mintc_timing.proofs.SharedSetupLaws.{KeepsSetup-latch}
use Rattle.mintc_timing.proofs.SharedProducts.{neg-times, times-mono_positive}

module _ (t : Timing) (s : Schedule) (d : List ℤ) (limits : IsDesign t.flat) (right : IsRight t s d) where
  phase_at : (l : ℕ) → l < element_count t.flat → IsPhase (phase_count t.flat) (phase_of t.flat l)
  phase_at l h = (limits.each_element l no_element h).phase

  pub meets-start : (p : ℕ) → IsPhase (phase_count t.flat) p → Meets t.flat s d (start_link p)
  meets-start p h =
      let k = right.clock.each p h.0 h.1 in
      let low = k.start.0 in
      rw (node_time-start t s d p h) (omega (arith, ints))

  pub meets-cycle : (p : ℕ) → IsPhase (phase_count t.flat) p → Meets t.flat s d (cycle_link p)
  meets-cycle p h =
      let k = right.clock.each p h.0 h.1 in
      let high = k.start.1 in
      rw (node_time-start t s d p h) (omega (arith, ints))

  pub meets-order : (p : ℕ) → 1 ≤ p → p < phase_count t.flat → Meets t.flat s d (order_link p)
  meets-order p g h =
      let a : IsPhase (phase_count t.flat) p = (omega arith, omega arith) in
      let b : IsPhase (phase_count t.flat) (p + 1) = (omega arith, omega arith) in
      let k = (right.clock.each p a.0 a.1).order h in
      rw (node_time-start t s d p a, node_time-start t s d (p + 1) b) (omega (arith, ints))

  pub meets-span : (p : ℕ) → IsPhase (phase_count t.flat) p → Meets t.flat s d (span_link p)
  meets-span p h =
      let k = (right.clock.each p h.0 h.1).span.1 in
      rw (node_time-start t s d p h, node_time-end t s d p h) (omega (arith, ints))

  pub meets-width : (p : ℕ) → IsPhase (phase_count t.flat) p → Meets t.flat s d (width_link t.flat p)
  meets-width p h =
      let k = (right.clock.each p h.0 h.1).wide in
      rw (node_time-start t s d p h, node_time-end t s d p h) (omega (arith, ints))

  pub meets-apart : (i j : ℕ) → IsPhase (phase_count t.flat) i → IsPhase (phase_count t.flat) j → IsTrue (feeds_of t i j) → Meets t.flat s d (apart_link i j)
  meets-apart i j g h fed =
      let k = (right.clock.each i g.0 g.1).apart j h.0 h.1 fed in
      rw (node_time-start t s d i g, node_time-end t s d j h) (omega (arith, ints))

  pub meets-opened : (l : ℕ) → l < element_count t.flat → (element_at t.flat l).flop ≡ false → Meets t.flat s d (opened_link t.flat l)
  meets-opened l h latch =
      let p = phase_at l h in
      let k = (KeepsSetup-latch t s d l latch).0 (right.setup l h) in
      rw (node_time-start t s d (phase_of t.flat l) p, node_time-end t s d (phase_of t.flat l) p) (omega (arith, ints, clamps))

  element_time-latch : (l : ℕ) → (element_at t.flat l).flop ≡ false → element_time t.flat s d l ≡ start_of s (phase_of t.flat l) +ℤ departure d l
  element_time-latch l h = ap (λ (b : Bool). cond b (start_of s (phase_of t.flat l) -ℤ (element_at t.flat l).setup *ℤ s.den) (start_of s (phase_of t.flat l) +ℤ departure d l)) h

  element_time-flop : (l : ℕ) → (element_at t.flat l).flop ≡ true → element_time t.flat s d l ≡ start_of s (phase_of t.flat l) -ℤ (element_at t.flat l).setup *ℤ s.den
  element_time-flop l h = ap (λ (b : Bool). cond b (start_of s (phase_of t.flat l) -ℤ (element_at t.flat l).setup *ℤ s.den) (start_of s (phase_of t.flat l) +ℤ departure d l)) h

  opens : (l : ℕ) → l < element_count t.flat → (element_at t.flat l).flop ≡ false → late_opening t.flat s l ≤ℤ departure d l
  opens l h latch =
      rw (right.exact.each l h, late_departure-latch t s d l latch) (greater-least (late_arrival t.flat s d) (λ (p : Pair). p.to == l) (late_opening t.flat s l) _)

  pub meets-open : (l : ℕ) → l < element_count t.flat → Meets t.flat s d (opening_link t.flat l)
  meets-open l h = go (element_at t.flat l).flop refl
    where
      go : (b : Bool) → (element_at t.flat l).flop ≡ b → Meets t.flat s d (opening_link t.flat l)
      go false latch =
          let p = phase_at l h in
          let k = opens l h latch in
          rw (node_time-start t s d (phase_of t.flat l) p, node_time-element t s d l h, element_time-latch l latch, latch) (omega (arith, ints))
      go true flop =
          let p = phase_at l h in
          rw (node_time-start t s d (phase_of t.flat l) p, node_time-element t s d l h, element_time-flop l flop, flop, neg-times (element_at t.flat l).setup s.den) (omega (arith, ints))

  pub meets-setup : (l : ℕ) → l < element_count t.flat → Meets t.flat s d (setup_link t.flat l)
  meets-setup l h = go (element_at t.flat l).flop refl
    where
      go : (b : Bool) → (element_at t.flat l).flop ≡ b → Meets t.flat s d (setup_link t.flat l)
      go false latch =
          let p = phase_at l h in
          let k = (KeepsSetup-latch t s d l latch).0 (right.setup l h) in
          rw (node_time-element t s d l h, element_time-latch l latch, latch, node_time-end t s d (phase_of t.flat l) p) (omega (arith, ints, clamps))
      go true flop =
          let p = phase_at l h in
          rw (node_time-element t s d l h, element_time-flop l flop, flop, node_time-start t s d (phase_of t.flat l) p) (omega (arith, ints))

  node_time-point : (x : Point) → IsPoint (phase_count t.flat) x → node_time t.flat s d (point_node x) ≡ time_of s x
  node_time-point point.Origin h = refl
  node_time-point (point.Start p) h = node_time-start t s d p h
  node_time-point (point.End p) h = node_time-end t s d p h

  pub meets-bound : (n : ℕ) (e : Bound) → n < length t.flat.bounds → Meets t.flat s d (bound_link n (get_or t.flat.bounds n e))
  meets-bound n e h =
      let b = get_or t.flat.bounds n e in
      let kept = right.bounds n e h in
      let ranges = limits.each_bound n e h in
      rw (node_time-point b.from ranges.from, node_time-point b.to ranges.to) kept

module _ (t : Timing) (s : Schedule) (d : List ℤ) (limits : IsDesign t.flat) (ends : HasEnds t) (right : IsRight t s d) where
  -- the moments of a latch, of a flop, and of outputs
  pub moment-latch : (l : ℕ) → l < element_count t.flat → (element_at t.flat l).flop ≡ false → node_time t.flat s d (element_node t.flat l) ≡ start_of s (phase_of t.flat l) +ℤ departure d l
  moment-latch l h latch = node_time-element t s d l h ∙ element_time-latch t s d limits right l latch

  moment-flop : (l : ℕ) → l < element_count t.flat → (element_at t.flat l).flop ≡ true → node_time t.flat s d (element_node t.flat l) ≡ start_of s (phase_of t.flat l) -ℤ (element_at t.flat l).setup *ℤ s.den
  moment-flop l h flop = node_time-element t s d l h ∙ element_time-flop t s d limits right l flop

  output_is : (j : ℕ) → j < element_count t.flat → (b : Bool) → (element_at t.flat j).flop ≡ b → node_time t.flat s d (output_node t.flat j) ≡ start_of s (phase_of t.flat j) +ℤ departure d j
  output_is j h false latch = ap (λ (b : Bool). node_time t.flat s d (cond b (start_node (phase_of t.flat j)) (element_node t.flat j))) latch ∙ moment-latch j h latch
  output_is j h true flop =
      let zero : departure d j ≡ pos 0 = right.exact.each j h ∙ late_departure-flop t s d j flop in
      let start = node_time-start t s d (phase_of t.flat j) (phase_at t s d limits right j h) in
      ap (λ (b : Bool). node_time t.flat s d (cond b (start_node (phase_of t.flat j)) (element_node t.flat j))) flop ∙ omega (arith, ints)

  -- A latch's departure is its equation's, and data arrives no later than the moment of the element.
  pub departs : (l : ℕ) → l < element_count t.flat → (element_at t.flat l).flop ≡ false → departure d l ≡ latest t s d l
  departs l h latch = right.exact.each l h ∙ late_departure-latch t s d l latch

  arrives : (l : ℕ) → l < element_count t.flat → (n : ℕ) → n < length t.pairs → (pair_at t n).to ≡ l → (b : Bool) → (element_at t.flat l).flop ≡ b →
      (late_arrival t.flat s d (pair_at t n) +ℤ start_of s (phase_of t.flat l)) ≤ℤ node_time t.flat s d (element_node t.flat l)
  arrives l h n below to false latch =
      let is = departs l h latch in
      let node = moment-latch l h latch in
      let bound = latest-arrives t s d l n below to in
      omega (arith, ints)
  arrives l h n below to true flop =
      let node = moment-flop l h flop in
      let kept = rw flop at (right.setup l h) in
      let before = each-from_greatest t s d l (λ a. (a +ℤ (element_at t.flat l).setup *ℤ s.den) ≤ℤ pos 0) (λ a b less g. omega (arith, ints)) kept n below to in
      omega (arith, ints)

  -- what the link of a pair asks: the arrival of its data
  pub arrival_is : (n : ℕ) → n < length t.pairs →
      earliest_end s.cycle s.den (node_time t.flat s d) (reach_link t.flat (pair_at t n).from (pair_at t n).to (pair_at t n).max) ≡ late_arrival t.flat s d (pair_at t n) +ℤ start_of s (phase_of t.flat (pair_at t n).to)
  arrival_is n below =
      let out = output_is (pair_at t n).from (ends n no_pair below).0 (element_at t.flat (pair_at t n).from).flop refl in
      omega (arith, ints)

  meets-pair : (n : ℕ) → n < length t.pairs → Meets t.flat s d (reach_link t.flat (pair_at t n).from (pair_at t n).to (pair_at t n).max)
  meets-pair n below =
      let is = arrival_is n below in
      let before = arrives (pair_at t n).to (ends n no_pair below).1 n below refl (element_at t.flat (pair_at t n).to).flop refl in
      omega (arith, ints)

  -- Each link of the design holds.
  pub each_met : EachKind t (Meets t.flat s d)
  each_met = record {
    start = meets-start t s d limits right;
    cycle = meets-cycle t s d limits right;
    order = meets-order t s d limits right;
    span = meets-span t s d limits right;
    width = meets-width t s d limits right;
    apart = meets-apart t s d limits right;
    opening = meets-open t s d limits right;
    opened = meets-opened t s d limits right;
    reach = meets-pair;
    setup = meets-setup t s d limits right;
    bound = meets-bound t s d limits right;
  }

-- the ends of the pairs of a system
pub ends_of : (t : Timing) → ArePairs t.flat t.pairs → HasEnds t
ends_of t pairs_are = λ n d h. let named = pairs_are.each n d h in (named.from, named.to)

module _ (t : Timing) (s : Schedule) (d : List ℤ) (limits : IsDesign t.flat) (right : IsRight t s d) (pairs_are : ArePairs t.flat t.pairs) where
  -- A path asks for no more time than its pair.
  pub meets-reach : (j l : ℕ) (path : List ℕ) → j < element_count t.flat → l < element_count t.flat → IsPath t.flat.arcs j path (input_of l) →
      Meets t.flat s d (reach_link t.flat j l (greatest_delay t.flat.arcs path))
  meets-reach j l path p q h =
      let found = pairs_are.whole j l path p q h in
      let n = found.1.0 in
      let below : n < length t.pairs = found.1.1 in
      let at : pair_at t n ≡ found.0 = get_or_default t.pairs n no_pair found.0 below ∙ found.1.2 in
      let from : (pair_at t n).from ≡ j = ap (λ (p : Pair). p.from) at ∙ found.2 in
      let to : (pair_at t n).to ≡ l = ap (λ (p : Pair). p.to) at ∙ found.3 in
      let bound = (pairs_are.each n no_pair below).greatest.bound path (rw (from, to) h) in
      let more = times-mono_positive ((element_at t.flat j).dq_max +ℤ greatest_delay t.flat.arcs path) ((element_at t.flat j).dq_max +ℤ (pair_at t n).max) s.den
      (omega (arith, ints)) right.clock.den in
      let met = rw (from, to) at (meets-pair t s d limits (ends_of t pairs_are) right n below) in
      omega (arith, ints)
