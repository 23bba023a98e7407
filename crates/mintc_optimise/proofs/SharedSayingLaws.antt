-- Exact moments at a cycle time of the search are small enough to be said.
use Rattle.std.proofs.Common.{◌≡◌, ℕ, ◌<◌, ℤ, pos, negsuc, ◌≤ℤ◌, ◌-ℤ◌, ◌*ℤ◌, false, List, arith}
use Rattle.std.proofs.lemmas.Int.{ints}
use Rattle.mintc_fraction.specs.Ratio.{Ratio}
use Rattle.mintc_graph_walks.specs.Walks.{value_at}
use Rattle.mintc_timing.specs.Design.{Timing, element_at, element_count, phase_count, phase_of, no_element}
use Rattle.mintc_timing.specs.Limits.{IsDesign, IsGap, IsDelay, IsNumerator, IsPhase}
use Rattle.mintc_timing.specs.Links.{element_node, end_node, start_node, IsMet}
use Rattle.mintc_timing.proofs.SharedProducts.{times-mono_positive}
use Rattle.mintc_constraints.specs.Duality.{AreExactMoments}
use Rattle.mintc_timing.proofs.SharedByKind.{EachKind, EachKind-from_all}
use Rattle.mintc_constraints.proofs.SharedOrdinaryLaws.{least_width-range}
use Rattle.mintc_certificate.specs.Ranges.{IsDeparture}
use Rattle.mintc_ratio.specs.Searched.{IsCycle}
use Rattle.mintc_ratio.specs.Sums.{most_delay}
use Rattle.mintc_optimise.specs.Making.{AreSayable}

-- a delay times a denominator of at most 20,017
abbrev IsShortTime : ℤ → Type 0
IsShortTime x = (negsuc 20016999999999 ≤ℤ x) × (x ≤ℤ pos 20017000000000)

gap_times : (x den : ℤ) → IsGap x → pos 1 ≤ℤ den → den ≤ℤ pos 20017 → IsShortTime (x *ℤ den)
gap_times x den h some most =
    let low = times-mono_positive (negsuc 999999999) x den h.0 some in
    let high = times-mono_positive x (pos 1000000000) den h.1 some in
    (omega (arith, ints), omega (arith, ints))

delay_times : (x den : ℤ) → IsDelay x → pos 1 ≤ℤ den → pos 0 ≤ℤ (x *ℤ den)
delay_times x den h some = let low = times-mono_positive (pos 0) x den h.0 some in omega (arith, ints)

gap_between : (x y : ℤ) → IsDelay x → IsDelay y → IsGap (x -ℤ y)
gap_between x y g h = let a = g.0 in let b = g.1 in let c = h.0 in let d = h.1 in (omega (arith, ints), omega (arith, ints))

module _ (t : Timing) (limits : IsDesign t.flat) (cycle : Ratio) (is_cycle : IsCycle cycle) (values : List ℤ) (exact : AreExactMoments t cycle.num cycle.den values) where
  met : EachKind t (IsMet cycle.num cycle.den (value_at values))
  met = EachKind-from_all t (IsMet cycle.num cycle.den (value_at values)) exact.moments.met

  start_range : (p : ℕ) → IsPhase (phase_count t.flat) p → IsNumerator (value_at values (start_node p))
  start_range p h =
      let start = met.start p h in
      let back = met.cycle p h in
      (omega (arith, ints), omega (arith, ints))

  width_low : (p : ℕ) → IsPhase (phase_count t.flat) p → pos 0 ≤ℤ (value_at values (end_node p) -ℤ value_at values (start_node p))
  width_low p h =
      let wide = met.width p h in
      let some = delay_times _ cycle.den (least_width-range t limits p) is_cycle.fraction in
      omega (arith, ints)

  width_high : (p : ℕ) → IsPhase (phase_count t.flat) p → (value_at values (end_node p) -ℤ value_at values (start_node p)) ≤ℤ most_delay
  width_high p h =
      let span = met.span p h in
      omega (arith, ints)

  departure_range : (l : ℕ) → l < element_count t.flat → (element_at t.flat l).flop ≡ false → IsDeparture (value_at values (element_node t.flat l) -ℤ value_at values (start_node (phase_of t.flat l)))
  departure_range l h latch =
      let e = limits.each_element l no_element h in
      let width = width_high (phase_of t.flat l) e.phase in
      let early = gap_times ((element_at t.flat l).cq_max -ℤ (element_at t.flat l).dq_max) cycle.den (gap_between _ _ e.cq_max e.dq_max) is_cycle.fraction is_cycle.den in
      let late = gap_times (element_at t.flat l).setup cycle.den e.setup is_cycle.fraction is_cycle.den in
      let opens = rw latch at (met.opening l h) in
      let closes = rw latch at (met.setup l h) in
      (omega (arith, ints), omega (arith, ints))

  pub are_sayable : AreSayable t.flat values
  are_sayable = record {
    count = exact.moments.count;
    starts = λ p low high. start_range p (low, high);
    widths = λ p low high. let most = width_high p (low, high) in (width_low p (low, high), omega (arith, ints));
    departures = departure_range;
  }
