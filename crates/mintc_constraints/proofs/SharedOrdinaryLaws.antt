-- The links of a design are ordinary.
use Rattle.std.proofs.Common.{◌≡◌, ℕ, ◌<◌, ◌≤◌, ◌+◌, ◌-◌, ◌*◌, ◌/◌, ◌%◌, ◌==◌, ℤ, pos, negsuc, ◌≤ℤ◌, ◌-ℤ◌, neg_ℤ, Bool, true, false, not, cond, List, [], ◌∷◌, length, get_or, map, arith, refl, ap, ◌∙◌, subst, ⊎_elim, length-append}
use Rattle.std.proofs.lemmas.Int.{ints}
use Rattle.std.proofs.lemmas.Bool.{cases_eq, cases_lt}
use Rattle.std.proofs.lemmas.Bool.Decides.{nat_tests}
use Rattle.std.proofs.lemmas.List.{length-map, get_or_default}
use Rattle.std.proofs.lemmas.List.FromFn.{length-range_with_len, length-enumerate_from}
use Rattle.std.proofs.lemmas.List.Sums.{length-filter, count_by-le-length}
use Rattle.std.specs.List.{Any, Contains, filter}
use Rattle.mintc_timing.specs.declared.parts.Element.{Element}
use Rattle.mintc_timing.specs.declared.parts.Point.{Point}
use Rattle.mintc_timing.specs.declared.parts.Point.TheVariants as point
use Rattle.mintc_timing.specs.declared.link.Link.{Link}
use Rattle.mintc_timing.specs.Design.{Timing, phase_count, element_count, element_at, phase_of, pair_at, no_element, no_pair}
use Rattle.mintc_timing.specs.Extremes.{greater_of, greatest_of}
use Rattle.mintc_timing.specs.Clocking.{crosses_of, feeds_of, least_width}
use Rattle.mintc_timing.specs.Limits.{IsPhase, IsElement, IsDesign, IsDelay, IsGap, IsPoint}
use Rattle.mintc_timing.specs.Order.{IsTiming}
use Rattle.mintc_timing.specs.Paths.{HasEnds}
use Rattle.mintc_timing.specs.Links.{links_of, start_node, end_node, element_node, output_node, point_node, start_link, cycle_link, order_link, span_link, width_link, apart_link, opening_link, opened_link, reach_link, setup_link, bound_link, latches_of, no_link, link_at}
use Rattle.mintc_timing.specs.Violations.{phases_of, elements_of}
use Rattle.mintc_timing.proofs.SharedExtremesLaws.{greatest_is, greater-least, greater-attained}
use Rattle.mintc_timing.proofs.SharedRanges.{pair-max_range}
use Rattle.mintc_constraints.specs.Ordinary.{Leads, HasPlainLink, IsOrdinaryLink, IsOrdinary, constraints_of}
use Rattle.mintc_constraints.specs.Laws.{most_pairs, HasModestPairs, LinksAreOrdinary}
use Rattle.mintc_timing.specs.Links.{node_count}
use Rattle.mintc_timing.proofs.SharedMembers.{length-flat_map_at_most}
use Rattle.mintc_timing.proofs.SharedLinkLaws.{ends_of}
use Rattle.mintc_timing.proofs.SharedByKind.{EachKind, All-links, stands}

-- each node is one of four kinds
pub node_cases : (P : ℕ → Type 0) (k n : ℕ) → P 0 → ((p : ℕ) → IsPhase k p → P (start_node p)) → ((p : ℕ) → IsPhase k p → P (end_node p)) →
    ((l : ℕ) → l < n → P (2 * k + 1 + l)) → (v : ℕ) → v < 1 + 2 * k + n → P v
node_cases P k n zero start end element v h = ⊎_elim clock (λ high. subst P (moved high) (element (v - (2 * k + 1)) (omega arith))) (cases_lt v (2 * k + 1))
  where
    moved : 2 * k + 1 ≤ v → 2 * k + 1 + (v - (2 * k + 1)) ≡ v
    moved high = omega arith

    odd : v < 2 * k + 1 → (v % 2 ≡ 0 → ⊥) → P v
    odd low e = let is : 2 * ((v + 1) / 2) - 1 ≡ v = omega arith in subst P is (start ((v + 1) / 2) (omega arith, omega arith))

    even : v < 2 * k + 1 → (v ≡ 0 → ⊥) → v % 2 ≡ 0 → P v
    even low some e = let is : 2 * (v / 2) ≡ v = omega arith in subst P is (end (v / 2) (omega arith, omega arith))

    some_phase : v < 2 * k + 1 → (v ≡ 0 → ⊥) → P v
    some_phase low some = ⊎_elim (even low some) (odd low) (cases_eq (v % 2) 0)

    clock : v < 2 * k + 1 → P v
    clock low = ⊎_elim (λ e. rw e zero) (some_phase low) (cases_eq v 0)

pub crosses-at_most : (i j : ℕ) → crosses_of i j ≤ 1
crosses-at_most i j = grind (arith, nat_tests)

cond-below : (b : Bool) (x y most : ℕ) → x < most → y < most → cond b x y < most
cond-below true x y most p q = p
cond-below false x y most p q = q

cond-IsGap : (b : Bool) (x y : ℤ) → IsGap x → IsGap y → IsGap (cond b x y)
cond-IsGap true x y p q = p
cond-IsGap false x y p q = q

-- where a link stands in a list
pub number_of : (links : List Link) (k : Link) → Contains links k → (e : ℕ) × (e < length links) × (link_at links e ≡ k)
number_of links k h = (h.0, h.1, get_or_default links h.0 no_link k h.1 ∙ h.2)

plain_link : (links : List Link) (k : Link) (a b laps : ℕ) → Contains links k → k.from ≡ a → k.to ≡ b → k.delay ≡ pos 0 → k.cycles ≡ laps → HasPlainLink links a b laps
plain_link links k a b laps h from to delay cycles =
    let found = number_of links k h in
    record {
      number = found.0;
      exists = found.1;
      from = ap (λ (x : Link). x.from) found.2 ∙ from;
      to = ap (λ (x : Link). x.to) found.2 ∙ to;
      delay = ap (λ (x : Link). x.delay) found.2 ∙ delay;
      cycles = ap (λ (x : Link). x.cycles) found.2 ∙ cycles;
    }

-- a link before a walk
longer : (links : List Link) (k : Link) (a b c : ℕ) → Contains links k → k.from ≡ a → k.to ≡ b →
    (walk : List ℕ) × Leads links b walk c → (walk : List ℕ) × Leads links a walk c
longer links k a b c h from to rest =
    let found = number_of links k h in
    let leaves : (link_at links found.0).from ≡ a = ap (λ (x : Link). x.from) found.2 ∙ from in
    let ends : (link_at links found.0).to ≡ b = ap (λ (x : Link). x.to) found.2 ∙ to in
    (found.0 ∷ rest.0, (found.1, leaves, rw ends rest.1))

module _ (t : Timing) (limits : IsDesign t.flat) where
  element_is : (l : ℕ) → l < element_count t.flat → IsElement (phase_count t.flat) (element_at t.flat l)
  element_is l h = limits.each_element l no_element h

  pub least_width-range : (p : ℕ) → IsDelay (least_width t.flat p)
  least_width-range p =
      let width = λ (e : Element). e.width in
      let on = λ (e : Element). e.phase == p in
      let o = greatest_of (map width (filter on t.flat.elements)) in
      let low = greater-least width on (pos 0) o in
      ⊎_elim (λ (is : greater_of (pos 0) o ≡ pos 0). within _ is (omega (arith, ints), omega (arith, ints)))
      (λ (some : Any (λ (e : Element). (on e ≡ true) × (width e ≡ greater_of (pos 0) o)) t.flat.elements).
      let e : IsElement (phase_count t.flat) some.1 = rw some.3 at (limits.each_element some.0 some.1 some.2) in
      let range = e.width in
      rw (← some.4.1) range)
      (greater-attained width on (pos 0) t.flat.elements o (greatest_is width on t.flat.elements))
    where
      within : (x : ℤ) → x ≡ pos 0 → IsDelay (pos 0) → IsDelay x
      within x is h = rw is h

  point_below : (x : Point) → IsPoint (phase_count t.flat) x → point_node x < node_count t.flat
  point_below point.Origin h = omega arith
  point_below (point.Start p) h = let low = h.0 in let high = h.1 in omega arith
  point_below (point.End p) h = let high = h.1 in omega arith

  pub few_links : length t.pairs ≤ most_pairs → length (links_of t) ≤ 50000000
  few_links pairs =
      let phases = limits.phases.1 in
      let elements = limits.elements in
      let bounds = limits.bounds in
      let clock = length-range_with_len 1 (phase_count t.flat) in
      let every = length-range_with_len 0 (element_count t.flat) in
      let aparts = length-flat_map_at_most (λ i. map (apart_link i) (filter (feeds_of t i) (phases_of t.flat))) 8 (phases_of t.flat) (fed phases) in
      let latches : length (latches_of t.flat) ≤ length (elements_of t.flat) =
      let kept = count_by-le-length (λ l. not (element_at t.flat l).flop) (elements_of t.flat) in let is = length-filter (λ l. not (element_at t.flat l).flop) (elements_of t.flat) in omega arith in
      simp (length-append, length-map, length-range_with_len, length-enumerate_from) (omega arith)
    where
      fed : phase_count t.flat ≤ 8 → (i : ℕ) → length (map (apart_link i) (filter (feeds_of t i) (phases_of t.flat))) ≤ 8
      fed most i =
          let kept = count_by-le-length (feeds_of t i) (phases_of t.flat) in
          let is = length-filter (feeds_of t i) (phases_of t.flat) in
          let count = length-range_with_len 1 (phase_count t.flat) in
          let mapped = length-map (filter (feeds_of t i) (phases_of t.flat)) (apart_link i) in
          omega arith

  module _ (ends : HasEnds t) where
    output_below : (l : ℕ) → l < element_count t.flat → output_node t.flat l < node_count t.flat
    output_below l h =
        let phase = (element_is l h).phase in
        cond-below (element_at t.flat l).flop (start_node (phase_of t.flat l)) (element_node t.flat l) (node_count t.flat) (omega arith) (omega arith)

    -- each link leads from a node to a node
    pub each_between : EachKind t (λ k. (k.from < node_count t.flat) × (k.to < node_count t.flat))
    each_between = record {
      start = λ p h. let low = h.0 in let high = h.1 in (omega arith, omega arith);
      cycle = λ p h. let low = h.0 in let high = h.1 in (omega arith, omega arith);
      order = λ p low high. (omega arith, omega arith);
      span = λ p h. let low = h.0 in let high = h.1 in (omega arith, omega arith);
      width = λ p h. let low = h.0 in let high = h.1 in (omega arith, omega arith);
      apart = λ i j g h fed. let one = g.0 in let two = g.1 in let low = h.0 in let high = h.1 in (omega arith, omega arith);
      opening = λ l h. let phase = (element_is l h).phase in (omega arith, omega arith);
      opened = λ l h latch. let phase = (element_is l h).phase in (omega arith, omega arith);
      reach = λ n h. let to = (ends n no_pair h).1 in (output_below (pair_at t n).from (ends n no_pair h).0, omega arith);
      setup = λ l h.
          let phase = (element_is l h).phase in
          (omega arith, cond-below (element_at t.flat l).flop (start_node (phase_of t.flat l)) (end_node (phase_of t.flat l)) (node_count t.flat) (omega arith) (omega arith));
      bound = λ n d h.
          let b = limits.each_bound n d h in
          (point_below (get_or t.flat.bounds n d).from b.from, point_below (get_or t.flat.bounds n d).to b.to);
    }

  module _ (modest : HasModestPairs t) where
    opening_gap : (l : ℕ) → l < element_count t.flat → IsGap (opening_link t.flat l).delay
    opening_gap l h =
        let e = element_is l h in
        let gap = e.setup in
        let dq = e.dq_max in
        let cq = e.cq_max in
        cond-IsGap (element_at t.flat l).flop (neg_ℤ (element_at t.flat l).setup) ((element_at t.flat l).cq_max -ℤ (element_at t.flat l).dq_max)
        (omega (arith, ints), omega (arith, ints)) (omega (arith, ints), omega (arith, ints))

    each_ordinary : EachKind t (IsOrdinaryLink (node_count t.flat))
    each_ordinary =
        let between = each_between modest.ends in
        record {
          start = λ p h. ordinary_link (start_link p) (between.start p h) (omega arith) (omega (arith, ints), omega (arith, ints));
          cycle = λ p h. ordinary_link (cycle_link p) (between.cycle p h) (omega arith) (omega (arith, ints), omega (arith, ints));
          order = λ p low high. ordinary_link (order_link p) (between.order p low high) (omega arith) (omega (arith, ints), omega (arith, ints));
          span = λ p h. ordinary_link (span_link p) (between.span p h) (omega arith) (omega (arith, ints), omega (arith, ints));
          width = λ p h. let range = least_width-range p in ordinary_link (width_link t.flat p) (between.width p h) (omega arith) (omega (arith, ints), omega (arith, ints));
          apart = λ i j g h fed. ordinary_link (apart_link i j) (between.apart i j g h fed) (crosses-at_most j i) (omega (arith, ints), omega (arith, ints));
          opening = λ l h. let gap = opening_gap l h in ordinary_link (opening_link t.flat l) (between.opening l h) (omega arith) (omega (arith, ints), omega (arith, ints));
          opened = λ l h latch.
              let gap = (element_is l h).setup in ordinary_link (opened_link t.flat l) (between.opened l h latch) (omega arith) (omega (arith, ints), omega (arith, ints));
          reach = λ n h.
              let delay = (element_is (pair_at t n).from (modest.ends n no_pair h).0).dq_max in
              let longest = modest.delays n no_pair h in
              ordinary_link (reach_link t.flat (pair_at t n).from (pair_at t n).to (pair_at t n).max) (between.reach n h)
              (crosses-at_most (phase_of t.flat (pair_at t n).from) (phase_of t.flat (pair_at t n).to)) (omega (arith, ints), omega (arith, ints));
          setup = λ l h. let gap = (element_is l h).setup in ordinary_link (setup_link t.flat l) (between.setup l h) (omega arith) (omega (arith, ints), omega (arith, ints));
          bound = λ n d h.
              let b = limits.each_bound n d h in
              let gap = b.gap in
              ordinary_link (bound_link n (get_or t.flat.bounds n d)) (between.bound n d h) b.cycles (omega (arith, ints), omega (arith, ints));
        }
      where
        ordinary_link : (k : Link) → (k.from < node_count t.flat) × (k.to < node_count t.flat) → k.cycles ≤ 1 → (negsuc 3999999999 ≤ℤ k.delay) × (k.delay ≤ℤ pos 2000000000) → IsOrdinaryLink (node_count t.flat) k
        ordinary_link k between cycles delay = record { from = between.0; to = between.1; cycles = cycles; delay = delay }

    to_start : (p : ℕ) → IsPhase (phase_count t.flat) p → (walk : List ℕ) × Leads (links_of t) 0 walk (start_node p)
    to_start p h = longer (links_of t) (start_link p) 0 (start_node p) (start_node p) ((stands t).start p h) refl refl ([], refl)

    to_end : (p : ℕ) → IsPhase (phase_count t.flat) p → (walk : List ℕ) × Leads (links_of t) 0 walk (end_node p)
    to_end p h =
        longer (links_of t) (start_link p) 0 (start_node p) (end_node p) ((stands t).start p h) refl refl
        (longer (links_of t) (width_link t.flat p) (start_node p) (end_node p) (end_node p) ((stands t).width p h) refl refl ([], refl))

    to_element : (l : ℕ) → l < element_count t.flat → (walk : List ℕ) × Leads (links_of t) 0 walk (element_node t.flat l)
    to_element l h =
        let p = phase_of t.flat l in
        longer (links_of t) (start_link p) 0 (start_node p) (element_node t.flat l) ((stands t).start p (element_is l h).phase) refl refl
        (longer (links_of t) (opening_link t.flat l) (start_node p) (element_node t.flat l) (element_node t.flat l) ((stands t).opening l h) refl refl ([], refl))

    pub modest_ordinary : IsOrdinary (constraints_of (node_count t.flat) (links_of t))
    modest_ordinary =
        let some = limits.phases in
        let elements = limits.elements in
        let one : IsPhase (phase_count t.flat) 1 = (omega arith, omega arith) in
        record {
          nodes = (omega arith, omega arith);
          few = let most = few_links modest.few in omega arith;
          each = All-links t (IsOrdinaryLink (node_count t.flat)) each_ordinary;
          forth = plain_link (links_of t) (start_link 1) 0 1 0 ((stands t).start 1 one) refl refl refl refl;
          back = plain_link (links_of t) (cycle_link 1) 1 0 1 ((stands t).cycle 1 one) refl refl refl refl;
          reached = node_cases (λ v. (walk : List ℕ) × Leads (links_of t) 0 walk v) (phase_count t.flat) (element_count t.flat) ([], refl) to_start to_end to_element;
        }

-- the pairs of a system
pub modest_of : (t : Timing) → IsDesign t.flat → IsTiming t.flat t.order t.pairs → HasModestPairs t
modest_of t limits kept = record {
  ends = ends_of t kept.extremes;
  delays = λ n d h. pair-max_range t.flat t.order t.pairs limits kept n d h;
  few = let most = kept.few in omega arith;
}

pub ordinary : (t : Timing) → IsDesign t.flat → IsTiming t.flat t.order t.pairs → IsOrdinary (constraints_of (node_count t.flat) (links_of t))
ordinary t limits kept = modest_ordinary t limits (modest_of t limits kept)

pub links_are_ordinary_lem : LinksAreOrdinary
links_are_ordinary_lem t limits kept = ordinary t limits kept
