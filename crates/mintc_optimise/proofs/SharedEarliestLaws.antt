-- The values of greatest walks over any links between a design's nodes are the earliest schedule with its departures.
use Rattle.std.proofs.Common.{◌≡◌, ℕ, ◌-◌, ◌<◌, ℤ, pos, ◌≤ℤ◌, ◌-ℤ◌, ◌+ℤ◌, ◌*ℤ◌, false, List, arith, refl, ap}
use Rattle.std.proofs.lemmas.Int.{ints}
use Rattle.std.proofs.lemmas.List.FromFn.{get_or-map-range_with_len}
use Rattle.mintc_fraction.specs.Ratio.{Ratio, IsLowest}
use Rattle.mintc_graph_walks.specs.Walks.{value_at}
use Rattle.mintc_timing.specs.declared.link.Link.{Link}
use Rattle.mintc_timing.specs.declared.clocking.Schedule.{Schedule}
use Rattle.mintc_timing.specs.Clocking.{start_of, width_of, end_of}
use Rattle.mintc_timing.specs.Departures.{departure}
use Rattle.mintc_timing.specs.Design.{Timing, element_at, element_count, phase_count, phase_of, no_element}
use Rattle.mintc_timing.specs.Limits.{IsDesign, IsPhase}
use Rattle.mintc_timing.specs.Links.{element_node, end_node, start_node, node_count}
use Rattle.mintc_constraints.specs.Duality.{departure_of, departures_of, schedule_of}
use Rattle.mintc_constraints.specs.Ordinary.{constraints_of}
use Rattle.mintc_ratio.specs.Greatest.{AreGreatest}
use Rattle.mintc_ratio.proofs.SharedFinerLaws.{finer_lem}
use Rattle.mintc_optimise.specs.Optimum.{IsEarliest, IsSolution}

module _ (t : Timing) (limits : IsDesign t.flat) (links : List Link) (cycle : Ratio) (values : List ℤ) where
  abbrev s : Schedule
  s = schedule_of t.flat cycle.num cycle.den values

  abbrev d : List ℤ
  d = departures_of t.flat values

  pub start_is : (p : ℕ) → IsPhase (phase_count t.flat) p → start_of s p ≡ value_at values (start_node p)
  start_is p h =
      get_or-map-range_with_len (λ p. value_at values (start_node p)) 1 (phase_count t.flat) (p - 1) p (pos 0) (omega arith) (omega arith)

  width_is : (p : ℕ) → IsPhase (phase_count t.flat) p → width_of s p ≡ value_at values (end_node p) -ℤ value_at values (start_node p)
  width_is p h =
      get_or-map-range_with_len (λ p. value_at values (end_node p) -ℤ value_at values (start_node p)) 1 (phase_count t.flat) (p - 1) p (pos 0) (omega arith) (omega arith)

  pub end_is : (p : ℕ) → IsPhase (phase_count t.flat) p → end_of s p ≡ value_at values (end_node p)
  end_is p h = omega (arith, ints, start_is p h, width_is p h)

  departure_is : (l : ℕ) → l < element_count t.flat → (element_at t.flat l).flop ≡ false → departure d l ≡ value_at values (element_node t.flat l) -ℤ value_at values (start_node (phase_of t.flat l))
  departure_is l h latch = rw (get_or-map-range_with_len (departure_of t.flat values) 0 (element_count t.flat) l l (pos 0) h (omega arith), latch) refl

  module _ (lowest : IsLowest cycle) (g : AreGreatest (constraints_of (node_count t.flat) links) cycle values) where
    -- No solution has a moment before the value of its node.
    least_at : (factor : ℤ) (moment : ℕ → ℤ) → IsSolution links s factor moment → (node : ℕ) → node < node_count t.flat → (value_at values node *ℤ factor) ≤ℤ moment node
    least_at factor moment solution node h = finer_lem (constraints_of (node_count t.flat) links) cycle values factor moment g solution.origin solution.met node h

    pub earliest : IsEarliest t.flat links s d
    earliest = record {
      lowest = lowest;
      starts = λ factor moment solution p low high.
          let is = ap (λ x. x *ℤ factor) (start_is p (low, high)) in
          let least = least_at factor moment solution (start_node p) (omega arith) in
          omega (arith, ints);
      ends = λ factor moment solution p low high.
          let is = ap (λ x. x *ℤ factor) (end_is p (low, high)) in
          let least = least_at factor moment solution (end_node p) (omega arith) in
          omega (arith, ints);
      latches = λ factor moment solution l h latch.
          let start = start_is (phase_of t.flat l) (limits.each_element l no_element h).phase in
          let departs = departure_is l h latch in
          let leaves : start_of s (phase_of t.flat l) +ℤ departure d l ≡ value_at values (element_node t.flat l) = omega (arith, ints) in
          let is = ap (λ x. x *ℤ factor) leaves in
          let least = least_at factor moment solution (element_node t.flat l) (omega arith) in
          omega (arith, ints);
    }
