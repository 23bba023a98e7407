-- The schedule that the moments of all nodes stand for is that of each corner's own.
use Rattle.std.proofs.Common.{◌≡◌, ℕ, zero, suc, ◌<◌, ◌≤◌, ◌+◌, ◌*◌, ℤ, ◌-ℤ◌, false, List, [], ◌∷◌, length, get_or, map, arith, refl, ap, ◌∙◌, subst, length-append}
use Rattle.std.specs.List.{range_with_len}
use Rattle.mintc_text.specs.declared.limits.TheConstants.{MOST_ELEMENTS}
use Rattle.mintc_graph_walks.specs.Walks.{value_at}
use Rattle.mintc_timing.specs.Design.{Timing, element_at, element_count, no_element, phase_count, phase_of}
use Rattle.mintc_timing.specs.declared.parts.Element.{Element}
use Rattle.mintc_timing.specs.Limits.{IsDesign, IsNumerator}
use Rattle.mintc_timing.specs.Links.{element_node, end_node, start_node}
use Rattle.mintc_constraints.specs.Duality.{schedule_of}
use Rattle.mintc_certificate.specs.Ranges.{IsDeparture}
use Rattle.mintc_optimise.specs.Making.{AreSayable}
use Rattle.mintc_corners.specs.Joined.{no_timing, corner_values, AreSayableAfter, AreSayableOfAll, IsSayable}
use Rattle.mintc_corners.specs.Joint.{beside, side_by_side}
use Rattle.mintc_corners.specs.Laws.{AreBeside, AreSystems}
use Rattle.mintc_corners.proofs.JointLaws.{phases_are}
use Rattle.mintc_corners.proofs.PartsLaws.{element_beside_left, element_beside_right}
use Rattle.mintc_corners.proofs.ValuesLaws.{own_clock, own_count, own_element}

-- numbers of each phase that are one by one the same
same_phases : (a k : ℕ) (f g : ℕ → ℤ) → ((p : ℕ) → p < a + k → f p ≡ g p) → map f (range_with_len a k) ≡ map g (range_with_len a k)
same_phases a zero f g same = refl
same_phases a (suc k) f g same = rw (same a (omega arith), same_phases (a + 1) k f g (λ p h. same p (omega arith))) refl

pub own_schedule : (t : Timing) (before count : ℕ) (num den : ℤ) (values : List ℤ) → 1 + 2 * phase_count t.flat + before + count ≤ length values →
    schedule_of t.flat num den (corner_values (2 * phase_count t.flat) before count values) ≡ schedule_of t.flat num den values
own_schedule t before count num den values inside =
    let own = corner_values (2 * phase_count t.flat) before count values in
    let at : (node : ℕ) → node ≤ 2 * phase_count t.flat → value_at own node ≡ value_at values node = own_clock (2 * phase_count t.flat) before count values inside in
    let starts = same_phases 1 (phase_count t.flat) (λ (p : ℕ). value_at own (start_node p)) (λ (p : ℕ). value_at values (start_node p)) (λ p h. at (start_node p) (omega arith)) in
    let widths = same_phases 1 (phase_count t.flat) (λ (p : ℕ). value_at own (end_node p) -ℤ value_at own (start_node p)) (λ (p : ℕ). value_at values (end_node p) -ℤ value_at values (start_node p))
    (λ p h. rw (at (end_node p) (omega arith), at (start_node p) (omega arith)) refl) in
    rw (starts, widths) refl

-- the schedule of all is that of the first
pub schedule_same : (t : Timing) (ts : List Timing) (num den : ℤ) (values : List ℤ) → schedule_of (side_by_side t ts).flat num den values ≡ schedule_of t.flat num den values
schedule_same t ts num den values = rw (phases_are t ts) refl

-- What can be said of all, can be said of each corner: they have one clock, and each its departures.
module _ (values : List ℤ) (k : ℕ) (starts : (p : ℕ) → 1 ≤ p → p ≤ k → IsNumerator (value_at values (start_node p)))
    (widths : (p : ℕ) → 1 ≤ p → p ≤ k → IsNumerator (value_at values (end_node p) -ℤ value_at values (start_node p)))
  where
    -- the latches depart in time, their elements after so many others
    abbrev DepartInRange : ℕ → Timing → Type 0
    DepartInRange before t = (l : ℕ) → l < element_count t.flat → (element_at t.flat l).flop ≡ false →
        IsDeparture (value_at values (1 + 2 * k + before + l) -ℤ value_at values (start_node (phase_of t.flat l)))

    own_sayable : (t : Timing) (before : ℕ) → phase_count t.flat ≡ k → IsDesign t.flat → before ≤ MOST_ELEMENTS → 1 + 2 * k + before + element_count t.flat ≤ length values → DepartInRange before t → IsSayable (2 * k) before t.flat values
    own_sayable t before same limits few inside h =
        let own = corner_values (2 * k) before (element_count t.flat) values in
        let at : (node : ℕ) → node ≤ 2 * k → value_at own node ≡ value_at values node = own_clock (2 * k) before (element_count t.flat) values inside in
        record {
          before_few = few;
          inside = inside;
          sayable = record {
            count = omega (arith, own_count (2 * k) before (element_count t.flat) values inside);
            starts = λ p low high. rw (at (start_node p) (omega arith)) (starts p low (omega arith));
            widths = λ p low high. rw (at (start_node p) (omega arith), at (end_node p) (omega arith)) (widths p low (omega arith));
            departures = λ l below latch.
                let most = (limits.each_element l no_element below).phase.1 in
                let node : element_node t.flat l ≡ 1 + 2 * k + l = omega arith in
                let moment = ap (λ (x : ℕ). value_at own x) node ∙ own_element (2 * k) before (element_count t.flat) values inside l below in
                rw (at (start_node (phase_of t.flat l)) (omega arith), moment) (h l below latch);
          };
        }

    first_departs : (t v : Timing) (before : ℕ) → DepartInRange before (beside t v) → DepartInRange before t
    first_departs t v before h l below latch =
        let count = length-append t.flat.elements v.flat.elements in
        let e = element_beside_left t v l below in
        subst (λ (x : Element). IsDeparture (value_at values (1 + 2 * k + before + l) -ℤ value_at values (start_node x.phase))) e (h l (omega arith) (ap (λ (x : Element). x.flop) e ∙ latch))

    second_departs : (t v : Timing) (before : ℕ) → DepartInRange before (beside t v) → DepartInRange (before + element_count t.flat) v
    second_departs t v before h l below latch =
        let count = length-append t.flat.elements v.flat.elements in
        let e = element_beside_right t v l in
        let node : 1 + 2 * k + before + (element_count t.flat + l) ≡ 1 + 2 * k + (before + element_count t.flat) + l = omega arith in
        subst (λ (x : ℕ). IsDeparture (value_at values x -ℤ value_at values (start_node (phase_of v.flat l)))) node
        (subst (λ (x : Element). IsDeparture (value_at values (1 + 2 * k + before + (element_count t.flat + l)) -ℤ value_at values (start_node x.phase))) e
        (h (element_count t.flat + l) (omega arith) (ap (λ (x : Element). x.flop) e ∙ latch)))

    sayable_in_turn : (t : Timing) (ts : List Timing) (before : ℕ) → phase_count t.flat ≡ k → AreBeside t ts → AreSystems (t ∷ ts) → before + element_count (side_by_side t ts).flat ≤ MOST_ELEMENTS →
        1 + 2 * k + before + element_count (side_by_side t ts).flat ≤ length values → DepartInRange before (side_by_side t ts) → AreSayableAfter (2 * k) before (t ∷ ts) values
    sayable_in_turn t [] before same besides systems few inside h = (own_sayable t before same systems.0 (omega arith) inside h, tt)
    sayable_in_turn t (u ∷ ts) before same besides systems few inside h =
        let v = side_by_side u ts in
        let count = length-append t.flat.elements v.flat.elements in
        let alike = besides.1.phases in
        let phases = phases_are u ts in (
          own_sayable t before same systems.0 (omega arith) (omega arith) (first_departs t v before h),
          sayable_in_turn u ts (before + element_count t.flat) (omega arith) besides.2 systems.2 (omega arith) (omega arith) (second_departs t v before h),
        )

pub sayable_of_all : (t : Timing) (ts : List Timing) (values : List ℤ) → AreBeside t ts → AreSystems (t ∷ ts) → element_count (side_by_side t ts).flat ≤ MOST_ELEMENTS → AreSayable (side_by_side t ts).flat values → AreSayableOfAll (t ∷ ts) values
sayable_of_all t ts values besides systems few h =
    let big = side_by_side t ts in
    let phases = phases_are t ts in
    let count = h.count in
    sayable_in_turn values (phase_count t.flat) (λ p low high. h.starts p low (omega arith)) (λ p low high. h.widths p low (omega arith)) t ts 0 refl besides systems (omega arith) (omega arith)
    (λ l below latch.
    let node : element_node big.flat l ≡ 1 + 2 * phase_count t.flat + 0 + l = omega arith in
    subst (λ (x : ℕ). IsDeparture (value_at values x -ℤ value_at values (start_node (phase_of big.flat l)))) node (h.departures l below latch))

-- The schedule that the first corner's own moments stand for.
pub first_schedule : (systems : List Timing) (t : Timing) (clock count : ℕ) (num den : ℤ) (values own : List ℤ) → 1 ≤ length systems → t ≡ get_or systems 0 t → clock ≡ 2 * phase_count t.flat → count ≡ element_count t.flat →
    AreSayableOfAll systems values → own ≡ corner_values clock 0 count values → schedule_of t.flat num den own ≡ schedule_of (get_or systems 0 no_timing).flat num den values
first_schedule [] t clock count num den values own some is clock_is count_is h own_is = absurd (omega arith)
first_schedule (u ∷ ts) t clock count num den values own some is clock_is count_is h own_is =
    rw (own_is, clock_is, count_is, is) (own_schedule u 0 (element_count u.flat) num den values (omega arith))
