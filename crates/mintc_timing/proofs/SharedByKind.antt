-- What holds of each link of a design, from its kinds to the list and back.
use Rattle.std.proofs.Common.{◌≡◌, ℕ, ◌<◌, ◌≤◌, ◌-◌, true, false, not, List, ◌++◌, length, get_or, map, arith, refl, ap, zero-add}
use Rattle.std.proofs.lemmas.List.{get_or_default}
use Rattle.std.proofs.lemmas.List.FromFn.{get_or-enumerate_from, length-enumerate_from}
use Rattle.std.proofs.lemmas.List.Elements.{All-append, All-map, All-contains, All-contains_itself, Contains-get_or}
use Rattle.std.specs.List.{All, Contains, range_with_len, enumerate_from, filter, flat_map}
use Rattle.mintc_timing.specs.declared.parts.Pair.{Pair}
use Rattle.mintc_timing.specs.declared.parts.Bound.{Bound}
use Rattle.mintc_timing.specs.declared.link.Link.{Link}
use Rattle.mintc_timing.specs.Design.{Timing, phase_count, element_count, element_at, pair_at, no_pair}
use Rattle.mintc_timing.specs.Clocking.{feeds_of}
use Rattle.mintc_timing.specs.Limits.{IsPhase}
use Rattle.mintc_timing.specs.Links.{links_of, start_link, cycle_link, order_link, span_link, width_link, apart_link, opening_link, opened_link, reach_link, setup_link, bound_link, latches_of}
use Rattle.mintc_timing.specs.Violations.{phases_of, elements_of}
use Rattle.mintc_timing.proofs.Feeding.{latch_of}
use Rattle.mintc_timing.proofs.SharedMembers.{All-front, All-back, Contains-map, Contains-filter, Contains-flat_map, Contains-range, Contains-enumerate, All-range, All-passing, All-pieces}

-- What holds of each link of a design, kind by kind.
pub record EachKind (t : Timing) (P : Link → Type 0) : Type 0 where
  pub start : (p : ℕ) → IsPhase (phase_count t.flat) p → P (start_link p)
  pub cycle : (p : ℕ) → IsPhase (phase_count t.flat) p → P (cycle_link p)
  pub order : (p : ℕ) → 1 ≤ p → p < phase_count t.flat → P (order_link p)
  pub span : (p : ℕ) → IsPhase (phase_count t.flat) p → P (span_link p)
  pub width : (p : ℕ) → IsPhase (phase_count t.flat) p → P (width_link t.flat p)
  pub apart : (i j : ℕ) → IsPhase (phase_count t.flat) i → IsPhase (phase_count t.flat) j → feeds_of t i j ≡ true → P (apart_link i j)
  pub opening : (l : ℕ) → l < element_count t.flat → P (opening_link t.flat l)
  pub opened : (l : ℕ) → l < element_count t.flat → (element_at t.flat l).flop ≡ false → P (opened_link t.flat l)
  pub reach : (n : ℕ) → n < length t.pairs → P (reach_link t.flat (pair_at t n).from (pair_at t n).to (pair_at t n).max)
  pub setup : (l : ℕ) → l < element_count t.flat → P (setup_link t.flat l)
  pub bound : (n : ℕ) (e : Bound) → n < length t.flat.bounds → P (bound_link n (get_or t.flat.bounds n e))

abbrev reach_of : Timing → Pair → Link
reach_of t p = reach_link t.flat p.from p.to p.max

abbrev bound_of : ℕ × Bound → Link
bound_of b = bound_link b.0 b.1

abbrev aparts_of : Timing → ℕ → List Link
aparts_of t i = map (apart_link i) (filter (feeds_of t i) (phases_of t.flat))

-- the links up to those of each kind
abbrev to_cycles : Timing → List Link
to_cycles t = map start_link (phases_of t.flat) ++ map cycle_link (phases_of t.flat)

abbrev to_orders : Timing → List Link
to_orders t = to_cycles t ++ map order_link (range_with_len 1 (phase_count t.flat - 1))

abbrev to_spans : Timing → List Link
to_spans t = to_orders t ++ map span_link (phases_of t.flat)

abbrev to_widths : Timing → List Link
to_widths t = to_spans t ++ map (width_link t.flat) (phases_of t.flat)

abbrev to_aparts : Timing → List Link
to_aparts t = to_widths t ++ flat_map (aparts_of t) (phases_of t.flat)

abbrev to_openings : Timing → List Link
to_openings t = to_aparts t ++ map (opening_link t.flat) (elements_of t.flat)

abbrev to_openeds : Timing → List Link
to_openeds t = to_openings t ++ map (opened_link t.flat) (latches_of t.flat)

abbrev to_reaches : Timing → List Link
to_reaches t = to_openeds t ++ map (reach_of t) t.pairs

abbrev to_setups : Timing → List Link
to_setups t = to_reaches t ++ map (setup_link t.flat) (elements_of t.flat)

to_bounds : (t : Timing) → links_of t ≡ to_setups t ++ map bound_of (enumerate_from 0 t.flat.bounds)
to_bounds t = refl

module _ (t : Timing) (P : Link → Type 0) where
  -- from each kind to the list
  module _ (each : EachKind t P) where
    all_phases : (f : ℕ → Link) → ((p : ℕ) → IsPhase (phase_count t.flat) p → P (f p)) → All P (map f (phases_of t.flat))
    all_phases f h = All-map P f (phases_of t.flat) (All-range (λ p. P (f p)) 1 (phase_count t.flat) (λ p low high. h p (low, omega arith)))

    all_elements : (f : ℕ → Link) → ((l : ℕ) → l < element_count t.flat → P (f l)) → All P (map f (elements_of t.flat))
    all_elements f h = All-map P f (elements_of t.flat) (All-range (λ l. P (f l)) 0 (element_count t.flat) (λ l low high. h l (omega arith)))

    all_orders : All P (map order_link (range_with_len 1 (phase_count t.flat - 1)))
    all_orders = All-map P order_link (range_with_len 1 (phase_count t.flat - 1))
        (All-range (λ p. P (order_link p)) 1 (phase_count t.flat - 1) (λ p low high. each.order p low (omega arith)))

    all_aparts_of : (i : ℕ) → IsPhase (phase_count t.flat) i → All P (aparts_of t i)
    all_aparts_of i g = All-map P (apart_link i) (filter (feeds_of t i) (phases_of t.flat))
        (All-passing (feeds_of t i) (λ j. P (apart_link i j)) (phases_of t.flat)
        (All-range (λ j. feeds_of t i j ≡ true → P (apart_link i j)) 1 (phase_count t.flat) (λ j low high fed. each.apart i j g (low, omega arith) fed)))

    all_aparts : All P (flat_map (aparts_of t) (phases_of t.flat))
    all_aparts = All-pieces (aparts_of t) P (phases_of t.flat) (All-range (λ i. All P (aparts_of t i)) 1 (phase_count t.flat) (λ i low high. all_aparts_of i (low, omega arith)))

    all_openeds : All P (map (opened_link t.flat) (latches_of t.flat))
    all_openeds = All-map P (opened_link t.flat) (latches_of t.flat)
        (All-passing (λ l. not (element_at t.flat l).flop) (λ l. P (opened_link t.flat l)) (elements_of t.flat)
        (All-range (λ l. not (element_at t.flat l).flop ≡ true → P (opened_link t.flat l)) 0 (element_count t.flat)
        (λ l low high latch. each.opened l (omega arith) (latch_of (element_at t.flat l).flop latch))))

    all_reaches : All P (map (reach_of t) t.pairs)
    all_reaches = All-map P (reach_of t) t.pairs (λ k e below. all_reaches_at k e below)
      where
        all_reaches_at : (k : ℕ) (e : Pair) → k < length t.pairs → P (reach_of t (get_or t.pairs k e))
        all_reaches_at k e below = rw (get_or_default t.pairs k e no_pair below) (each.reach k below)

    all_bounds : All P (map bound_of (enumerate_from 0 t.flat.bounds))
    all_bounds = All-map P bound_of (enumerate_from 0 t.flat.bounds)
        (λ k e below.
        let count = length-enumerate_from 0 t.flat.bounds in
        let small : k < length t.flat.bounds = omega arith in
        rw (get_or-enumerate_from 0 t.flat.bounds k e small, zero-add k) (each.bound k e.1 small))

    pub All-links : All P (links_of t)
    All-links =
        All-append P (to_setups t) (map bound_of (enumerate_from 0 t.flat.bounds))
        (All-append P (to_reaches t) (map (setup_link t.flat) (elements_of t.flat))
        (All-append P (to_openeds t) (map (reach_of t) t.pairs)
        (All-append P (to_openings t) (map (opened_link t.flat) (latches_of t.flat))
        (All-append P (to_aparts t) (map (opening_link t.flat) (elements_of t.flat))
        (All-append P (to_widths t) (flat_map (aparts_of t) (phases_of t.flat))
        (All-append P (to_spans t) (map (width_link t.flat) (phases_of t.flat))
        (All-append P (to_orders t) (map span_link (phases_of t.flat))
        (All-append P (to_cycles t) (map order_link (range_with_len 1 (phase_count t.flat - 1)))
        (All-append P (map start_link (phases_of t.flat)) (map cycle_link (phases_of t.flat)) (all_phases start_link each.start) (all_phases cycle_link each.cycle))
        all_orders)
        (all_phases span_link each.span))
        (all_phases (width_link t.flat) each.width))
        all_aparts)
        (all_elements (opening_link t.flat) each.opening))
        all_openeds)
        all_reaches)
        (all_elements (setup_link t.flat) each.setup))
        all_bounds

  -- and from the list to each kind
  each_phase : (f : ℕ → Link) → All P (map f (phases_of t.flat)) → (p : ℕ) → IsPhase (phase_count t.flat) p → P (f p)
  each_phase f h p g = All-contains P (map f (phases_of t.flat)) (f p) h (Contains-map f (phases_of t.flat) p (Contains-range 1 (phase_count t.flat) p g.0 (let high = g.1 in omega arith)))

  each_element : (f : ℕ → Link) → All P (map f (elements_of t.flat)) → (l : ℕ) → l < element_count t.flat → P (f l)
  each_element f h l g = All-contains P (map f (elements_of t.flat)) (f l) h (Contains-map f (elements_of t.flat) l (Contains-range 0 (element_count t.flat) l (omega arith) (omega arith)))

  pub EachKind-from_all : All P (links_of t) → EachKind t P
  EachKind-from_all h =
      let bounds = All-back P (to_setups t) (map bound_of (enumerate_from 0 t.flat.bounds)) h in
      let h10 = All-front P (to_setups t) (map bound_of (enumerate_from 0 t.flat.bounds)) h in
      let setups = All-back P (to_reaches t) (map (setup_link t.flat) (elements_of t.flat)) h10 in
      let h9 = All-front P (to_reaches t) (map (setup_link t.flat) (elements_of t.flat)) h10 in
      let reaches = All-back P (to_openeds t) (map (reach_of t) t.pairs) h9 in
      let h8 = All-front P (to_openeds t) (map (reach_of t) t.pairs) h9 in
      let openeds = All-back P (to_openings t) (map (opened_link t.flat) (latches_of t.flat)) h8 in
      let h7 = All-front P (to_openings t) (map (opened_link t.flat) (latches_of t.flat)) h8 in
      let openings = All-back P (to_aparts t) (map (opening_link t.flat) (elements_of t.flat)) h7 in
      let h6 = All-front P (to_aparts t) (map (opening_link t.flat) (elements_of t.flat)) h7 in
      let aparts = All-back P (to_widths t) (flat_map (aparts_of t) (phases_of t.flat)) h6 in
      let h5 = All-front P (to_widths t) (flat_map (aparts_of t) (phases_of t.flat)) h6 in
      let widths = All-back P (to_spans t) (map (width_link t.flat) (phases_of t.flat)) h5 in
      let h4 = All-front P (to_spans t) (map (width_link t.flat) (phases_of t.flat)) h5 in
      let spans = All-back P (to_orders t) (map span_link (phases_of t.flat)) h4 in
      let h3 = All-front P (to_orders t) (map span_link (phases_of t.flat)) h4 in
      let orders = All-back P (to_cycles t) (map order_link (range_with_len 1 (phase_count t.flat - 1))) h3 in
      let h2 = All-front P (to_cycles t) (map order_link (range_with_len 1 (phase_count t.flat - 1))) h3 in
      record {
        start = each_phase start_link (All-front P (map start_link (phases_of t.flat)) (map cycle_link (phases_of t.flat)) h2);
        cycle = each_phase cycle_link (All-back P (map start_link (phases_of t.flat)) (map cycle_link (phases_of t.flat)) h2);
        order = λ p low high.
            All-contains P (map order_link (range_with_len 1 (phase_count t.flat - 1))) (order_link p) orders
            (Contains-map order_link (range_with_len 1 (phase_count t.flat - 1)) p (Contains-range 1 (phase_count t.flat - 1) p low (omega arith)));
        span = each_phase span_link spans;
        width = each_phase (width_link t.flat) widths;
        apart = λ i j g k fed.
            All-contains P (flat_map (aparts_of t) (phases_of t.flat)) (apart_link i j) aparts
            (Contains-flat_map (aparts_of t) (phases_of t.flat) i (apart_link i j)
            (Contains-range 1 (phase_count t.flat) i g.0 (let high = g.1 in omega arith))
            (Contains-map (apart_link i) (filter (feeds_of t i) (phases_of t.flat)) j
            (Contains-filter (feeds_of t i) (phases_of t.flat) j fed (Contains-range 1 (phase_count t.flat) j k.0 (let high = k.1 in omega arith)))));
        opening = each_element (opening_link t.flat) openings;
        opened = λ l g latch.
            All-contains P (map (opened_link t.flat) (latches_of t.flat)) (opened_link t.flat l) openeds
            (Contains-map (opened_link t.flat) (latches_of t.flat) l
            (Contains-filter (λ k. not (element_at t.flat k).flop) (elements_of t.flat) l (ap not latch) (Contains-range 0 (element_count t.flat) l (omega arith) (omega arith))));
        reach = λ n g.
            All-contains P (map (reach_of t) t.pairs) (reach_of t (pair_at t n)) reaches
            (Contains-map (reach_of t) t.pairs (pair_at t n) (Contains-get_or t.pairs n no_pair g));
        setup = each_element (setup_link t.flat) setups;
        bound = λ n e g.
            All-contains P (map bound_of (enumerate_from 0 t.flat.bounds)) (bound_link n (get_or t.flat.bounds n e)) bounds
            (Contains-map bound_of (enumerate_from 0 t.flat.bounds) (n, get_or t.flat.bounds n e) (Contains-enumerate t.flat.bounds n e g));
      }

-- where each link stands in the list
pub stands : (t : Timing) → EachKind t (Contains (links_of t))
stands t = EachKind-from_all t (Contains (links_of t)) (All-contains_itself (links_of t))
