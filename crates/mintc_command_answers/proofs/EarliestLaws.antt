-- Of the schedules of one cycle time one is the earliest, with one list of departures.
use Rattle.std.proofs.Common.{◌≡◌, ℕ, suc, ◌+◌, ◌-◌, ◌*◌, ◌<◌, ◌≤◌, ℤ, pos, ◌≤ℤ◌, ◌+ℤ◌, ◌*ℤ◌, Bool, true, false, List, length, get_or, arith, refl, ap, ◌∙◌, sym, subst}
use Rattle.std.proofs.lemmas.Int.{ints}
use Rattle.std.proofs.lemmas.List.{same_lists, get_or_default}
use Rattle.std.specs.List.{All}
use Rattle.std.proofs.lemmas.List.FromFn.{get_or-map-range_with_len}
use Rattle.mintc_graph_walks.specs.Walks.{value_at}
use Rattle.mintc_timing.specs.declared.clocking.Schedule.{Schedule}
use Rattle.mintc_timing.specs.declared.link.Link.{Link}
use Rattle.mintc_timing.specs.Clocking.{start_of, width_of, end_of}
use Rattle.mintc_timing.specs.Departures.{departure}
use Rattle.mintc_timing.specs.Design.{Design, Timing, element_at, element_count, phase_count, phase_of, no_element}
use Rattle.mintc_timing.specs.Limits.{IsDesign, IsPhase}
use Rattle.mintc_timing.specs.Links.{start_node, end_node, element_node, node_count, IsMet}
use Rattle.mintc_timing.specs.Right.{IsRight}
use Rattle.mintc_timing.specs.Times.{node_time}
use Rattle.mintc_timing.proofs.SharedDepartureLaws.{late_departure-flop}
use Rattle.mintc_timing.proofs.SharedTimesLaws.{node_time-start, node_time-end, node_time-element}
use Rattle.mintc_constraints.specs.Duality.{moments_of}
use Rattle.mintc_optimise.specs.Optimum.{IsEarliest, IsSolution}
use Rattle.mintc_report.proofs.SharedLowestLaws.{same_parts}

-- numbers that are at most one another
pub equal_from_both : (x y : ℤ) → x ≤ℤ y → y ≤ℤ x → x ≡ y
equal_from_both x y g h = omega (arith, ints)

-- lists of one length whose numbers agree
same_numbers : (xs ys : List ℤ) (n : ℕ) → length xs ≡ n → length ys ≡ n → ((k : ℕ) → k < n → get_or xs k (pos 0) ≡ get_or ys k (pos 0)) → xs ≡ ys
same_numbers xs ys n p q h = same_lists xs ys (p ∙ sym q)
    (λ k x below. get_or_default xs k x (pos 0) below ∙ h k (omega arith) ∙ get_or_default ys k (pos 0) x (omega arith))

-- schedules whose parts are one
abbrev made : ℤ → ℤ → List ℤ → List ℤ → Schedule
made den cycle starts widths = record { den = den; cycle = cycle; starts = starts; widths = widths }

same_schedule : (s r : Schedule) → s.den ≡ r.den → s.cycle ≡ r.cycle → s.starts ≡ r.starts → s.widths ≡ r.widths → s ≡ r
same_schedule s r a b c e =
    ap (λ x. made x s.cycle s.starts s.widths) a ∙ ap (λ x. made r.den x s.starts s.widths) b
    ∙ ap (λ x. made r.den r.cycle x s.widths) c ∙ ap (λ x. made r.den r.cycle r.starts x) e

-- number k of a list is that of the phase after k
number_of : (xs ys : List ℤ) (k : ℕ) → get_or xs (suc k - 1) (pos 0) ≡ get_or ys (suc k - 1) (pos 0) → get_or xs k (pos 0) ≡ get_or ys k (pos 0)
number_of xs ys k h = let same : suc k - 1 ≡ k = omega arith in subst (λ n. get_or xs n (pos 0) ≡ get_or ys n (pos 0)) same h

-- The moments of the schedule with its departures meet the links.
abbrev pub MeetsAll : Design → List Link → Schedule → List ℤ → Type 0
MeetsAll design links s d = All (IsMet s.cycle s.den (value_at (moments_of design s d))) links

module _ (t : Timing) (links : List Link) (limits : IsDesign t.flat) where
  -- the moments of a schedule with its departures
  module _ (s : Schedule) (d : List ℤ) where
    abbrev moment : ℕ → ℤ
    moment node = value_at (moments_of t.flat s d) node

    moment_is : (node : ℕ) → node < node_count t.flat → moment node ≡ node_time t.flat s d node
    moment_is node h = get_or-map-range_with_len (node_time t.flat s d) 0 (node_count t.flat) node node (pos 0) h (omega arith)

    start_is : (p : ℕ) → IsPhase (phase_count t.flat) p → moment (start_node p) ≡ start_of s p
    start_is p h = let high = h.1 in moment_is (start_node p) (omega arith) ∙ node_time-start t s d p h

    end_is : (p : ℕ) → IsPhase (phase_count t.flat) p → moment (end_node p) ≡ end_of s p
    end_is p h = let high = h.1 in moment_is (end_node p) (omega arith) ∙ node_time-end t s d p h

    latch_is : (l : ℕ) → l < element_count t.flat → (element_at t.flat l).flop ≡ false → moment (element_node t.flat l) ≡ start_of s (phase_of t.flat l) +ℤ departure d l
    latch_is l h latch = moment_is (element_node t.flat l) (omega arith) ∙ node_time-element t s d l h ∙ rw latch refl

  -- The earliest is no later than another one of its cycle time.
  module _ (s r : Schedule) (d e : List ℤ) (cycle : s.cycle ≡ r.cycle) (den : s.den ≡ r.den) (met : MeetsAll t.flat links r e) (first : IsEarliest t.flat links s d) where
    solution : IsSolution links s (pos 1) (moment r e)
    solution =
        let by : s.cycle *ℤ pos 1 ≡ r.cycle = omega (arith, ints) in
        let over : s.den *ℤ pos 1 ≡ r.den = omega (arith, ints) in
        record { positive = omega (arith, ints); origin = moment_is r e 0 (omega arith); met = rw (by, over) met }

    start_first : (p : ℕ) → IsPhase (phase_count t.flat) p → start_of s p ≤ℤ start_of r p
    start_first p h = omega (arith, ints, first.starts (pos 1) (moment r e) solution p h.0 h.1, start_is r e p h)

    end_first : (p : ℕ) → IsPhase (phase_count t.flat) p → end_of s p ≤ℤ end_of r p
    end_first p h = omega (arith, ints, first.ends (pos 1) (moment r e) solution p h.0 h.1, end_is r e p h)

    latch_first : (l : ℕ) → l < element_count t.flat → (element_at t.flat l).flop ≡ false →
        (start_of s (phase_of t.flat l) +ℤ departure d l) ≤ℤ (start_of r (phase_of t.flat l) +ℤ departure e l)
    latch_first l h latch = omega (arith, ints, first.latches (pos 1) (moment r e) solution l h latch, latch_is r e l h latch)

  -- So two that are the earliest are one.
  module _ (s r : Schedule) (d e : List ℤ) (right : IsRight t s d) (other : IsRight t r e) (met : MeetsAll t.flat links s d) (theirs : MeetsAll t.flat links r e)
      (equal : s.cycle *ℤ r.den ≡ r.cycle *ℤ s.den) (first : IsEarliest t.flat links s d) (second : IsEarliest t.flat links r e) where
    parts : (s.cycle ≡ r.cycle) × (s.den ≡ r.den)
    parts = same_parts s.cycle s.den r.cycle r.den right.clock.den other.clock.den first.lowest second.lowest equal

    start : (p : ℕ) → IsPhase (phase_count t.flat) p → start_of s p ≡ start_of r p
    start p h = equal_from_both _ _ (start_first s r d e parts.0 parts.1 theirs first p h) (start_first r s e d (sym parts.0) (sym parts.1) met second p h)

    end : (p : ℕ) → IsPhase (phase_count t.flat) p → end_of s p ≡ end_of r p
    end p h = equal_from_both _ _ (end_first s r d e parts.0 parts.1 theirs first p h) (end_first r s e d (sym parts.0) (sym parts.1) met second p h)

    width : (p : ℕ) → IsPhase (phase_count t.flat) p → width_of s p ≡ width_of r p
    width p h = omega (arith, ints, start p h, end p h)

    departs : (b : Bool) (l : ℕ) → l < element_count t.flat → (element_at t.flat l).flop ≡ b → departure d l ≡ departure e l
    departs true l h flop = right.exact.each l h ∙ late_departure-flop t s d l flop ∙ sym (late_departure-flop t r e l flop) ∙ sym (other.exact.each l h)
    departs false l h latch =
        let begins = start (phase_of t.flat l) (limits.each_element l no_element h).phase in
        let leaves = equal_from_both _ _ (latch_first s r d e parts.0 parts.1 theirs first l h latch) (latch_first r s e d (sym parts.0) (sym parts.1) met second l h latch) in
        omega (arith, ints)

    pub one : (s ≡ r) × (d ≡ e)
    one =
        let starts = same_numbers s.starts r.starts (phase_count t.flat) right.clock.starts other.clock.starts (λ k h. number_of s.starts r.starts k (start (suc k) (omega arith, omega arith))) in
        let widths = same_numbers s.widths r.widths (phase_count t.flat) right.clock.widths other.clock.widths (λ k h. number_of s.widths r.widths k (width (suc k) (omega arith, omega arith))) in (
          same_schedule s r parts.1 parts.0 starts widths,
          same_numbers d e (element_count t.flat) right.exact.count other.exact.count (λ l h. departs (element_at t.flat l).flop l h refl),
        )
