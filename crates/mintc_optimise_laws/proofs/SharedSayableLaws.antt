-- Moments that can be said make a schedule and departures that a certificate can say.
use Rattle.std.proofs.Common.{◌≡◌, ℕ, ◌<◌, ℤ, pos, ◌-ℤ◌, Bool, true, false, cond, List, map, arith, refl, sym, ◌∙◌}
use Rattle.std.specs.List.{All}
use Rattle.std.proofs.lemmas.Int.{ints}
use Rattle.std.proofs.lemmas.List.Elements.{All-map}
use Rattle.std.proofs.lemmas.List.FromFn.{length-map-range_with_len}
use Rattle.mintc_fraction.specs.Ratio.{Ratio}
use Rattle.mintc_graph_walks.specs.Walks.{value_at}
use Rattle.mintc_timing.specs.Design.{Design, element_at, element_count, phase_count, phase_of}
use Rattle.mintc_timing.specs.Limits.{IsDesign, IsInRange, IsNumerator}
use Rattle.mintc_timing.specs.Links.{element_node, end_node, start_node}
use Rattle.mintc_timing.specs.Violations.{elements_of, phases_of}
use Rattle.mintc_timing.proofs.SharedMembers.{All-range}
use Rattle.mintc_constraints.specs.Duality.{departure_of, departures_of, schedule_of}
use Rattle.mintc_certificate.specs.Ranges.{IsDeparture}
use Rattle.mintc_ratio.specs.Searched.{IsCycle}
use Rattle.mintc_optimise.specs.Making.{AreSayable}

module _ (design : Design) (limits : IsDesign design) (cycle : Ratio) (is : IsCycle cycle) (values : List ℤ) (sayable : AreSayable design values) where
  abbrev start : ℕ → ℤ
  start p = value_at values (start_node p)

  abbrev width : ℕ → ℤ
  width p = value_at values (end_node p) -ℤ value_at values (start_node p)

  starts_in : All IsNumerator (map start (phases_of design))
  starts_in = All-map IsNumerator start (phases_of design) (All-range (λ p. IsNumerator (start p)) 1 (phase_count design) (λ p low high. sayable.starts p low (omega (arith, high))))

  widths_in : All IsNumerator (map width (phases_of design))
  widths_in = All-map IsNumerator width (phases_of design) (All-range (λ p. IsNumerator (width p)) 1 (phase_count design) (λ p low high. sayable.widths p low (omega (arith, high))))

  pub schedule_in : IsInRange (schedule_of design cycle.num cycle.den values)
  schedule_in =
      let phases = limits.phases in
      let first = length-map-range_with_len start 1 (phase_count design) in
      let second = length-map-range_with_len width 1 (phase_count design) in
      record {
        den = (omega (arith, ints, is.fraction), omega (arith, ints, is.den));
        cycle = (is.low, omega (arith, ints, is.num));
        starts = starts_in;
        widths = widths_in;
        phases = (omega (arith, first, phases.0), omega (arith, first, phases.1));
        alike = second ∙ sym first;
      }

  -- that of a flop is 0
  one_in : (l : ℕ) (flop : Bool) → (element_at design l).flop ≡ flop → l < element_count design →
      IsDeparture (cond flop (pos 0) (value_at values (element_node design l) -ℤ value_at values (start_node (phase_of design l))))
  one_in l true e h = (omega (arith, ints), omega (arith, ints))
  one_in l false e h = sayable.departures l h e

  pub departures_in : All IsDeparture (departures_of design values)
  departures_in = All-map IsDeparture (departure_of design values) (elements_of design)
      (All-range (λ l. IsDeparture (departure_of design values l)) 0 (element_count design) (λ l low high. one_in l (element_at design l).flop refl (omega (arith, high))))
