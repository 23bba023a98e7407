-- What the code reads and gives of moments that can be said.
use Rattle.std.proofs.Common.{◌≡◌, ℕ, ◌+◌, ◌-◌, ◌*◌, ◌<◌, ℤ, pos, negsuc, ◌≤ℤ◌, ◌-ℤ◌, Bool, false, cond, List, [], ◌∷◌, ◌++◌, length, map, arith, refl, ap, sym, ◌∙◌, SFits, w64, to_z, of_z}
use Rattle.std.specs.Int.{w128}
use Rattle.std.specs.List.{All, range_with_len}
use Rattle.std.proofs.lemmas.Int.{ints, to_z-of_z}
use Rattle.std.proofs.lemmas.List.Elements.{All-push}
use Rattle.std.proofs.lemmas.List.FromFn.{length-map-range_with_len, map-range_with_len_more}
use Rattle.mintc_fraction.specs.Ratio.{Ratio}
use Rattle.mintc_graph_walks.specs.Walks.{value_at}
use Rattle.mintc_timing.specs.declared.parts.Element.{Element}
use Rattle.mintc_timing.specs.Design.{Design, Timing, element_at, element_count, phase_count, phase_of, no_element}
use Rattle.mintc_timing.specs.Limits.{IsDesign, IsInRange, IsNumerator, IsDenominator, IsPhase, IsTime}
use Rattle.mintc_timing.specs.Links.{element_node, end_node, start_node}
use Rattle.mintc_timing.proofs.SharedFitting.{read_time, SFits-IsTime}
use Rattle.mintc_constraints.specs.Duality.{departure_of, schedule_of}
use Rattle.mintc_certificate.specs.Ranges.{IsDeparture}
use Rattle.mintc_ratio.specs.Searched.{IsCycle}
use Rattle.mintc_optimise.specs.Making.{AreSayable}

abbrev wide : ℤ → ℤ
wide x = to_z w128 (of_z w128 x)

abbrev narrow : ℤ → ℤ
narrow x = to_z w64 (of_z w64 x)

read_wide : (x : ℤ) → (negsuc 9999999999999999 ≤ℤ x) × (x ≤ℤ pos 10000000000000000) → wide x ≡ x
read_wide x h = to_z-of_z w128 x (omega (arith, ints))

pub IsTime-IsDeparture : (x : ℤ) → IsDeparture x → IsTime x
IsTime-IsDeparture x h = (omega (arith, ints), omega (arith, ints))

-- a number that is read from 128 bits, and a difference of two
pub read_number : (x : ℤ) → IsTime x → narrow (wide x) ≡ x
read_number x h = ap narrow (read_wide x (omega (arith, ints), omega (arith, ints))) ∙ read_time x h

wide_difference : (a b : ℤ) → IsNumerator b → IsTime (a -ℤ b) → wide (wide a -ℤ wide b) ≡ a -ℤ b
wide_difference a b h k =
    rw (read_wide a (omega (arith, ints), omega (arith, ints)), read_wide b (omega (arith, ints), omega (arith, ints))) (read_wide (a -ℤ b) (omega (arith, ints), omega (arith, ints)))

pub read_difference : (a b : ℤ) → IsNumerator b → IsTime (a -ℤ b) → narrow (wide (wide a -ℤ wide b)) ≡ a -ℤ b
read_difference a b h k = ap narrow (wide_difference a b h k) ∙ read_time (a -ℤ b) k

-- The numbers said are those of so many places from one on, each in its range.
pub record AreSaid (In : ℤ → Type 0) (f : ℕ → ℤ) (from count : ℕ) (said : List ℤ) : Type 0 where
  pub value : said ≡ map f (range_with_len from count)
  pub in_range : All In said

-- one more number that the code says
pub said_more : {In : ℤ → Type 0} {f : ℕ → ℤ} (a i j : ℕ) (x : ℤ) (old new : List ℤ) → a + i ≡ j → IsTime x → x ≡ f j → In x → AreSaid In f a i old → new ≡ old ++ narrow x ∷ [] → AreSaid In f a (i + 1) new
said_more {In} {f} a i j x old new at fits is here before step = record {
  value = rw (step, read_time x fits, is, before.value, map-range_with_len_more f a i j at) refl;
  in_range = rw (step, read_time x fits) (All-push In old x before.in_range here);
}

pub said_count : {In : ℤ → Type 0} {f : ℕ → ℤ} (a i : ℕ) (said : List ℤ) → AreSaid In f a i said → length said ≡ i
said_count {In} {f} a i said are = ap length are.value ∙ length-map-range_with_len f a i

module _ (d : Design) (values : List ℤ) (sayable : AreSayable d values) where
  pub width_read : (p : ℕ) → IsPhase (phase_count d) p →
      narrow (wide (wide (value_at values (end_node p)) -ℤ wide (value_at values (start_node p)))) ≡ value_at values (end_node p) -ℤ value_at values (start_node p)
  width_read p h =
      let range = sayable.widths p h.0 h.1 in
      read_difference (value_at values (end_node p)) (value_at values (start_node p)) (sayable.starts p h.0 h.1) (omega (arith, ints), omega (arith, ints))

  -- the departure of a latch
  module _ (limits : IsDesign d) (l : ℕ) (h : l < element_count d) (e : Element) (e_is : e ≡ element_at d l) (node begun : ℕ) (node_is : node ≡ element_node d l) (begun_is : begun ≡ start_node e.phase) (latch : e.flop ≡ false) where
    latch_at : (element_at d l).flop ≡ false
    latch_at = ap (λ (x : Element). x.flop) (sym e_is) ∙ latch

    abbrev moment : ℤ
    moment = value_at values (element_node d l)

    abbrev start : ℤ
    start = value_at values (start_node (phase_of d l))

    starts_in : IsNumerator start
    starts_in = let phase = (limits.each_element l no_element h).phase in sayable.starts (phase_of d l) phase.0 phase.1

    departs_in : IsDeparture (moment -ℤ start)
    departs_in = sayable.departures l h latch_at

    read : wide (wide (value_at values node) -ℤ wide (value_at values begun)) ≡ moment -ℤ start
    read = rw (node_is, begun_is, e_is) (wide_difference moment start starts_in (IsTime-IsDeparture (moment -ℤ start) departs_in))

    pub departure_fits : SFits w64 (wide (wide (value_at values node) -ℤ wide (value_at values begun)))
    departure_fits = rw read (SFits-IsTime (moment -ℤ start) (IsTime-IsDeparture (moment -ℤ start) departs_in))

    narrowed : narrow (wide (wide (value_at values node) -ℤ wide (value_at values begun))) ≡ moment -ℤ start
    narrowed = ap narrow read ∙ read_time (moment -ℤ start) (IsTime-IsDeparture (moment -ℤ start) departs_in)

    pub departure_read : narrow (wide (wide (value_at values node) -ℤ wide (value_at values begun))) ≡ departure_of d values l
    departure_read = narrowed ∙ sym (ap (λ (b : Bool). cond b (pos 0) (moment -ℤ start)) latch_at)

    pub departure_in : IsDeparture (narrow (wide (wide (value_at values node) -ℤ wide (value_at values begun))))
    departure_in = rw narrowed departs_in

-- the range of a schedule that the code gives
pub schedule_in : (t : Timing) (cycle : Ratio) (values : List ℤ) (den num : ℤ) (starts widths : List ℤ) → IsDesign t.flat → IsCycle cycle → den ≡ cycle.den → num ≡ cycle.num →
    starts ≡ (schedule_of t.flat cycle.num cycle.den values).starts → All IsNumerator starts → widths ≡ (schedule_of t.flat cycle.num cycle.den values).widths → All IsNumerator widths →
    IsInRange (record { den = narrow (wide den); cycle = narrow (wide num); starts = starts; widths = widths })
schedule_in t cycle values den num starts widths limits is den_is num_is starts_are starts_in widths_are widths_in =
    let phases = limits.phases in
    let den_in : IsDenominator den = rw den_is (omega (arith, ints), omega (arith, ints)) in
    let num_in : IsNumerator num = rw num_is (omega (arith, ints), omega (arith, ints)) in
    let some : length starts ≡ phase_count t.flat = ap length starts_are ∙ length-map-range_with_len (λ p. value_at values (start_node p)) 1 (phase_count t.flat) in
    let other : length widths ≡ phase_count t.flat = ap length widths_are ∙ length-map-range_with_len (λ p. value_at values (end_node p) -ℤ value_at values (start_node p)) 1 (phase_count t.flat) in
    record {
      den = rw (read_number den (omega (arith, ints), omega (arith, ints))) den_in;
      cycle = rw (read_number num (omega (arith, ints), omega (arith, ints))) num_in;
      starts = starts_in;
      widths = widths_in;
      phases = rw some phases;
      alike = other ∙ sym some;
    }
