-- A design without bounds has a right schedule: its phases lie far apart, in a long cycle, so that all data waits for its latch
-- to open.
use Rattle.std.proofs.Common.{◌≡◌, ◌≢◌, ℕ, ◌<◌, ◌≤◌, ◌+◌, ◌-◌, ℤ, pos, negsuc, ◌≤ℤ◌, ◌<ℤ◌, ◌+ℤ◌, ◌-ℤ◌, ◌*ℤ◌, Bool, true, false, cond, List, [], length, map, arith, refl, ap, ◌∙◌, sym, ⊎_elim}
use Rattle.std.proofs.lemmas.Int.{ints, clamps, by_lt_z}
use Rattle.std.proofs.lemmas.Bool.{cases_lt}
use Rattle.std.proofs.lemmas.List.FromFn.{length-map-range_with_len, get_or-map-range_with_len}
use Rattle.mintc_timing.specs.declared.clocking.Schedule.{Schedule}
use Rattle.mintc_timing.specs.Design.{Timing, phase_count, element_count, element_at, phase_of, pair_at, no_element, no_pair}
use Rattle.mintc_timing.specs.Clocking.{start_of, width_of, shift_of, KeepsApart, KeepsPhase, KeepsClock}
use Rattle.mintc_timing.specs.Departures.{departure, late_arrival, late_opening, late_departure, AreExact}
use Rattle.mintc_timing.specs.Limits.{IsPhase, IsDesign}
use Rattle.mintc_timing.specs.Links.{links_of, node_count, delay_of}
use Rattle.mintc_timing.specs.Right.{IsRight, IsHopeless, KeepsSetup}
use Rattle.mintc_timing.specs.Violations.{phases_of, elements_of}
use Rattle.mintc_timing.proofs.SharedDepartureLaws.{late_departure-latch, late_departure-flop}
use Rattle.mintc_timing.proofs.SharedSetupLaws.{KeepsSetup-latch}
use Rattle.mintc_timing.proofs.SharedShifts.{crosses-below, crosses-not_below}
use Rattle.mintc_timing.specs.Paths.{HasEnds}
use Rattle.mintc_constraints.specs.Ordinary.{IsOrdinary, IsOrdinaryLink, constraints_of}
use Rattle.mintc_timing.proofs.SharedArrivals.{latest, ArrivesBy, latest-opens, latest-attained, greatest-from_each}
use Rattle.mintc_timing.proofs.SharedByKind.{EachKind-from_all}
use Rattle.mintc_constraints.proofs.SharedOrdinaryLaws.{least_width-range, ordinary}
use Rattle.mintc_timing.proofs.SharedLinkLaws.{ends_of}
use Rattle.mintc_timing.proofs.SharedDeterminedLaws.{forbids_all_lem}
use Rattle.mintc_timing.proofs.SharedMeetingLaws.{no_chain_forbids_right_lem}
use Rattle.mintc_optimise.specs.Bounded.{UnboundedHasRight, NeverNeedsABound, UnboundedChainsTakeNothing}

-- Phase p starts at p * 10^10 femtoseconds.
abbrev far_start : ℕ → ℤ
far_start p = pos p *ℤ pos 10000000000

-- From a phase to the next start of another at least 10^10 femtoseconds pass, in a cycle of 10^11.
far_below : (i j : ℕ) → i < j → (far_start i -ℤ far_start j) ≤ℤ negsuc 9999999999
far_below i j h = omega (arith, ints)

far_not_below : (i j : ℕ) → IsPhase 8 i → IsPhase 8 j → (far_start i -ℤ far_start j -ℤ pos 100000000000) ≤ℤ negsuc 9999999999
far_not_below i j g h = omega (arith, ints)

-- A latch's data departs when it opens, a flop's at the start of its phase.
abbrev opening : Timing → ℕ → ℤ
opening t l = cond (element_at t.flat l).flop (pos 0) ((element_at t.flat l).cq_max -ℤ (element_at t.flat l).dq_max)

module _ (t : Timing) (limits : IsDesign t.flat) (ends : HasEnds t) (all : IsOrdinary (constraints_of (node_count t.flat) (links_of t))) where
  abbrev s : Schedule
  s = record { den = pos 1; cycle = pos 100000000000; starts = map far_start (phases_of t.flat); widths = map (λ p. pos 5000000000) (phases_of t.flat) }

  abbrev d : List ℤ
  d = map (opening t) (elements_of t.flat)

  phase_is : (l : ℕ) → l < element_count t.flat → IsPhase (phase_count t.flat) (phase_of t.flat l)
  phase_is l h = (limits.each_element l no_element h).phase

  of_eight : (p : ℕ) → IsPhase (phase_count t.flat) p → IsPhase 8 p
  of_eight p h = (omega arith, omega arith)

  start_is : (p : ℕ) → IsPhase (phase_count t.flat) p → start_of s p ≡ far_start p
  start_is p h =
      get_or-map-range_with_len far_start 1 (phase_count t.flat) (p - 1) p (pos 0) (omega arith) (omega arith)

  width_is : (p : ℕ) → IsPhase (phase_count t.flat) p → width_of s p ≡ pos 5000000000
  width_is p h =
      get_or-map-range_with_len (λ p. pos 5000000000) 1 (phase_count t.flat) (p - 1) p (pos 0) (omega arith) (omega arith)

  departure_is : (l : ℕ) → l < element_count t.flat → departure d l ≡ opening t l
  departure_is l h = get_or-map-range_with_len (opening t) 0 (element_count t.flat) l l (pos 0) h (omega arith)

  departure_at_most : (l : ℕ) → l < element_count t.flat → departure d l ≤ℤ pos 1000000000
  departure_at_most l h =
      let e = limits.each_element l no_element h in
      rw (departure_is l h) (low (element_at t.flat l).flop ((element_at t.flat l).cq_max -ℤ (element_at t.flat l).dq_max) (omega (arith, ints, e.cq_max, e.dq_max)))
    where
      low : (b : Bool) (x : ℤ) → x ≤ℤ pos 1000000000 → cond b (pos 0) x ≤ℤ pos 1000000000
      low true x h = omega (arith, ints)
      low false x h = h

  shift_low : (i j : ℕ) → IsPhase (phase_count t.flat) i → IsPhase (phase_count t.flat) j → shift_of s i j ≤ℤ negsuc 9999999999
  shift_low i j g h =
      let from = start_is i g in
      let to = start_is j h in
      ⊎_elim
      (λ (less : i < j).
      let far = far_below i j less in
      rw (crosses-below i j less) (omega (arith, ints)))
      (λ (more : j ≤ i).
      let far = far_not_below i j (of_eight i g) (of_eight j h) in
      rw (crosses-not_below i j more) (omega (arith, ints)))
      (cases_lt i j)

  -- All data comes long before the start of its phase.
  arrives_low : (n : ℕ) → n < length t.pairs → late_arrival t.flat s d (pair_at t n) ≤ℤ negsuc 3999999999
  arrives_low n h =
      let from = (ends n no_pair h).0 in
      let to = (ends n no_pair h).1 in
      let first = departure_at_most (pair_at t n).from from in
      let shift = shift_low (phase_of t.flat (pair_at t n).from) (phase_of t.flat (pair_at t n).to) (phase_is (pair_at t n).from from) (phase_is (pair_at t n).to to) in
      let delay = ((EachKind-from_all t (IsOrdinaryLink (node_count t.flat)) all.each).reach n h).delay.1 in
      omega (arith, ints)

  -- the departures
  opens_first : (l : ℕ) → l < element_count t.flat → latest t s d l ≡ late_opening t.flat s l
  opens_first l h =
      let e = limits.each_element l no_element h in
      let opens = latest-opens t s d l in
      ⊎_elim (λ (is : latest t s d l ≡ late_opening t.flat s l). is)
      (λ (by : ArrivesBy t s d l (latest t s d l)).
      let low = arrives_low by.0 by.1 in
      absurd (omega (arith, ints)))
      (latest-attained t s d l)

  are_exact : AreExact t s d
  are_exact = record {
    count = length-map-range_with_len (opening t) 0 (element_count t.flat);
    each = λ l h. each_exact l h (element_at t.flat l).flop refl;
  }
    where
      each_exact : (l : ℕ) → l < element_count t.flat → (b : Bool) → (element_at t.flat l).flop ≡ b → departure d l ≡ late_departure t s d l
      each_exact l h false latch =
          let is = rw latch at (departure_is l h) in
          let first = opens_first l h in
          let same : departure d l ≡ late_opening t.flat s l = omega (arith, ints) in
          same ∙ sym first ∙ sym (late_departure-latch t s d l latch)
      each_exact l h true flop = rw flop at (departure_is l h) ∙ sym (late_departure-flop t s d l flop)

  -- the clock
  keeps_apart : (i j : ℕ) → IsPhase (phase_count t.flat) i → IsPhase (phase_count t.flat) j → KeepsApart t s i j
  keeps_apart i j g h fed =
      let from = start_is i g in
      let to = start_is j h in
      let wide = width_is j h in
      ⊎_elim
      (λ (less : j < i).
      let far = far_below j i less in
      rw (crosses-below j i less) (omega (arith, ints)))
      (λ (more : i ≤ j).
      let far = far_not_below j i (of_eight j h) (of_eight i g) in
      rw (crosses-not_below j i more) (omega (arith, ints)))
      (cases_lt j i)

  keeps_phase : (p : ℕ) → IsPhase (phase_count t.flat) p → KeepsPhase t s p
  keeps_phase p h =
      let start = start_is p h in
      let width = width_is p h in
      let high = (of_eight p h).1 in
      let least = (least_width-range t limits p).1 in
      record {
        start = (omega (arith, ints), omega (arith, ints));
        span = (omega (arith, ints), omega (arith, ints));
        order = λ more.
            let next = start_is (p + 1) (omega arith, omega arith) in
            omega (arith, ints);
        wide = omega (arith, ints);
        apart = λ j low high. keeps_apart p j h (low, high);
      }

  keeps_clock : KeepsClock t s
  keeps_clock = record {
    den = omega (arith, ints);
    starts = length-map-range_with_len far_start 1 (phase_count t.flat);
    widths = length-map-range_with_len (λ p. pos 5000000000) 1 (phase_count t.flat);
    each = λ p low high. keeps_phase p (low, high);
  }

  -- the setups
  keeps_setup : (l : ℕ) → l < element_count t.flat → (b : Bool) → (element_at t.flat l).flop ≡ b → KeepsSetup t s d l
  keeps_setup l h false latch =
      let departs = departure_at_most l h in
      let width = width_is (phase_of t.flat l) (phase_is l h) in
      let setup = (limits.each_element l no_element h).setup in
      (KeepsSetup-latch t s d l latch).1 (omega (arith, ints, clamps))
  keeps_setup l h true flop =
      let setup = (limits.each_element l no_element h).setup in
      rw flop
      (greatest-from_each t s d l (λ a. (a +ℤ (element_at t.flat l).setup *ℤ pos 1) ≤ℤ pos 0)
      (λ a by.
      let low = arrives_low by.0 by.1 in
      omega (arith, ints)))

  pub far_is_right : t.flat.bounds ≡ [] → IsRight t s d
  far_is_right none = record {
    clock = keeps_clock;
    bounds = λ n e h. absurd (let count = ap length none in omega arith);
    exact = are_exact;
    setup = λ l h. keeps_setup l h (element_at t.flat l).flop refl;
  }

  pub hopeless_is_bounded : IsHopeless t → t.flat.bounds ≢ []
  hopeless_is_bounded hopeless none = hopeless s d (far_is_right none)

pub unbounded_has_right_lem : UnboundedHasRight
unbounded_has_right_lem t limits kept none =
    let ends = ends_of t kept.extremes in
    let all = ordinary t limits kept in
    (s t limits ends all, d t limits ends all, far_is_right t limits ends all none)

pub never_needs_a_bound_lem : NeverNeedsABound
never_needs_a_bound_lem t limits kept = hopeless_is_bounded t limits (ends_of t kept.extremes) (ordinary t limits kept)

pub unbounded_chains_take_nothing_lem : UnboundedChainsTakeNothing
unbounded_chains_take_nothing_lem t chain limits kept unbounded listed none =
    let right = unbounded_has_right_lem t limits kept unbounded in
    by_lt_z (pos 0) (delay_of chain)
    (λ (more : pos 0 <ℤ delay_of chain).
    absurd (no_chain_forbids_right_lem t right.0 right.1 chain limits (ends_of t kept.extremes) right.2 listed
    (forbids_all_lem chain right.0.cycle right.0.den (record { turns = none; stuck = more }) right.2.clock.den)))
    (λ (less : delay_of chain ≤ℤ pos 0). less)
