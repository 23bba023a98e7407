-- The links of a corner, numbered among those of all, are links of all corners side by side.
use Rattle.std.proofs.Common.{◌≡◌, ℕ, zero, suc, ◌<◌, ◌≤◌, ◌+◌, ◌-◌, ◌*◌, ◌==◌, ℤ, pos, ◌+ℤ◌, ◌-ℤ◌, neg_ℤ, Bool, true, false, cond, List, [], ◌∷◌, length, get_or, map, arith, refl, ap, ◌∙◌, sym, subst, ⊎_elim, zero-add, length-append, Option, Some, None}
use Rattle.std.specs.Int.{int_max}
use Rattle.std.specs.List.{filter}
use Rattle.std.proofs.lemmas.Bool.{cases_lt}
use Rattle.std.proofs.lemmas.Bool.Decides.{nat_tests}
use Rattle.std.proofs.lemmas.Int.{ints, clamps}
use Rattle.std.proofs.lemmas.List.{length-map}
use Rattle.mintc_timing.specs.declared.link.Link.{Link}
use Rattle.mintc_timing.specs.declared.link.LinkKind.{LinkKind}
use Rattle.mintc_timing.specs.declared.link.LinkKind.TheVariants as kind
use Rattle.mintc_timing.specs.declared.parts.Bound.{Bound}
use Rattle.mintc_timing.specs.declared.parts.Element.{Element}
use Rattle.mintc_timing.specs.declared.parts.Pair.{Pair}
use Rattle.mintc_timing.specs.declared.parts.Point.{Point}
use Rattle.mintc_timing.specs.declared.parts.Point.TheVariants as point
use Rattle.mintc_timing.specs.Clocking.{crosses_of, feeds_of, least_width}
use Rattle.mintc_timing.specs.Design.{Timing, element_at, element_count, no_element, no_pair, pair_at, phase_count, phase_of}
use Rattle.mintc_timing.specs.Extremes.{greater_of, greatest_of}
use Rattle.mintc_timing.specs.Limits.{IsDesign, IsPhase, IsPoint}
use Rattle.mintc_timing.specs.Links.{bound_link, element_node, end_node, link, opening_link, opened_link, point_node, reach_link, setup_link, start_node}
use Rattle.mintc_timing.specs.Order.{IsTiming}
use Rattle.mintc_timing.proofs.SharedByKind.{EachKind}
use Rattle.mintc_timing.proofs.SharedLinkLaws.{ends_of}
use Rattle.mintc_certificate.specs.declared.members.Member.{Member}
use Rattle.mintc_certificate.specs.declared.members.Member.TheVariants as member
use Rattle.mintc_certificate.specs.Valid.{IsMember, link_of, no_bound}
use Rattle.mintc_corners.specs.Lifted.{lifted_link, lifted_node, widest}
use Rattle.mintc_corners.specs.CornerOptimum.{IsOfClock, corner_of}
use Rattle.mintc_corners.specs.Joint.{AreCorners, beside, shifted_pair, side_by_side}
use Rattle.mintc_corners.specs.Laws.{AreBeside, AreSystems}
use Rattle.mintc_corners.proofs.JointLaws.{bounds-same, differ-from, phases_are}
use Rattle.mintc_corners.proofs.PartsLaws.{element_beside_left, element_beside_right, feeds-cases, feeds-left, feeds-right, pair_beside_left, pair_beside_right, width_beside}

-- how many items the corners before one have
abbrev pub before_one : (Timing → ℕ) → List Timing → ℕ → ℕ
before_one count [] c = 0
before_one count (t ∷ ts) zero = 0
before_one count (t ∷ ts) (suc c) = count t + before_one count ts c

abbrev pub elements_in : Timing → ℕ
elements_in t = element_count t.flat

abbrev pub elements_before : List Timing → ℕ → ℕ
elements_before ts c = before_one elements_in ts c

abbrev pair_count : Timing → ℕ
pair_count t = length t.pairs

pairs_sum : (t u : Timing) → pair_count (beside t u) ≡ pair_count t + pair_count u
pairs_sum t u = length-append t.pairs (map (shifted_pair (element_count t.flat)) u.pairs) ∙ ap (λ (x : ℕ). length t.pairs + x) (length-map u.pairs (shifted_pair (element_count t.flat)))

elements_sum : (t u : Timing) → element_count (beside t u).flat ≡ element_count t.flat + element_count u.flat
elements_sum t u = length-append t.flat.elements u.flat.elements

-- Items side by side are those of each corner in turn: an item of a corner is one of all, and one of all is one of a corner.
module _ (count : Timing → ℕ) (sum : (t u : Timing) → count (beside t u) ≡ count t + count u) where
  among_all : (t : Timing) (ts : List Timing) (c l : ℕ) (none : Timing) → c < length (t ∷ ts) → l < count (get_or (t ∷ ts) c none) → before_one count (t ∷ ts) c + l < count (side_by_side t ts)
  among_all t [] zero l none below h = omega arith
  among_all t [] (suc c) l none below h = absurd (omega arith)
  among_all t (u ∷ ts) zero l none below h = let both = sum t (side_by_side u ts) in omega arith
  among_all t (u ∷ ts) (suc c) l none below h =
      let both = sum t (side_by_side u ts) in
      let rest = among_all u ts c l none (omega arith) h in
      omega arith

  of_one : (t : Timing) (ts : List Timing) (x : ℕ) (none : Timing) → x < count (side_by_side t ts) →
      (c : ℕ) × (c < length (t ∷ ts)) × (l : ℕ) × (l < count (get_or (t ∷ ts) c none)) × (before_one count (t ∷ ts) c + l ≡ x)
  of_one t [] x none h = (0, omega arith, x, h, zero-add x)
  of_one t (u ∷ ts) x none h = ⊎_elim
      (λ (low : x < count t). (0, omega arith, x, low, zero-add x))
      (λ (high : count t ≤ x).
      let rest = of_one u ts (x - count t) none (let both = sum t (side_by_side u ts) in omega arith) in
      (suc rest.0, omega arith, rest.2, rest.3, omega arith))
      (cases_lt x (count t))

element_among : (t : Timing) (ts : List Timing) (c l : ℕ) (none : Timing) → c < length (t ∷ ts) → l < element_count (get_or (t ∷ ts) c none).flat →
    element_at (side_by_side t ts).flat (elements_before (t ∷ ts) c + l) ≡ element_at (get_or (t ∷ ts) c none).flat l
element_among t [] zero l none below h = ap (λ (x : ℕ). element_at t.flat x) (zero-add l)
element_among t [] (suc c) l none below h = absurd (omega arith)
element_among t (u ∷ ts) zero l none below h = ap (λ (x : ℕ). element_at (beside t (side_by_side u ts)).flat x) (zero-add l) ∙ element_beside_left t (side_by_side u ts) l h
element_among t (u ∷ ts) (suc c) l none below h =
    let v = side_by_side u ts in
    let at : element_count t.flat + elements_before (u ∷ ts) c + l ≡ element_count t.flat + (elements_before (u ∷ ts) c + l) = omega arith in
    ap (λ (x : ℕ). element_at (beside t v).flat x) at ∙ element_beside_right t v (elements_before (u ∷ ts) c + l) ∙ element_among u ts c l none (omega arith) h

-- The pair is the other, its elements numbered after so many.
abbrev IsShifted : ℕ → Pair → Pair → Type 0
IsShifted n p q = (p.from ≡ n + q.from) × (p.to ≡ n + q.to) × (p.max ≡ q.max)

pair_among : (t : Timing) (ts : List Timing) (c m : ℕ) (none : Timing) → c < length (t ∷ ts) → m < pair_count (get_or (t ∷ ts) c none) →
    IsShifted (elements_before (t ∷ ts) c) (pair_at (side_by_side t ts) (before_one pair_count (t ∷ ts) c + m)) (pair_at (get_or (t ∷ ts) c none) m)
pair_among t [] zero m none below h = rw (zero-add m) (omega arith, omega arith, refl)
pair_among t [] (suc c) m none below h = absurd (omega arith)
pair_among t (u ∷ ts) zero m none below h = rw (zero-add m, pair_beside_left t (side_by_side u ts) m h) (omega arith, omega arith, refl)
pair_among t (u ∷ ts) (suc c) m none below h =
    let v = side_by_side u ts in
    let at : pair_count t + before_one pair_count (u ∷ ts) c + m ≡ pair_count t + (before_one pair_count (u ∷ ts) c + m) = omega arith in
    let rest = pair_among u ts c m none (omega arith) h in
    let few = among_all pair_count pairs_sum u ts c m none (omega arith) h in
    rw (at, pair_beside_right t v (before_one pair_count (u ∷ ts) c + m) few) (omega arith, omega arith, rest.2)

-- what feeds in a corner, feeds side by side, and the other way
feeds_all : (t : Timing) (ts : List Timing) (c i j : ℕ) (none : Timing) → AreBeside t ts → c < length (t ∷ ts) → feeds_of (get_or (t ∷ ts) c none) i j ≡ true → feeds_of (side_by_side t ts) i j ≡ true
feeds_all t [] zero i j none h below fed = fed
feeds_all t [] (suc c) i j none h below fed = absurd (omega arith)
feeds_all t (u ∷ ts) zero i j none h below fed = feeds-left t (side_by_side u ts) h.0 i j fed
feeds_all t (u ∷ ts) (suc c) i j none h below fed = feeds-right t (side_by_side u ts) h.0 i j (feeds_all u ts c i j none h.2 (omega arith) fed)

feeds_one : (t : Timing) (ts : List Timing) (i j : ℕ) (none : Timing) → AreBeside t ts → feeds_of (side_by_side t ts) i j ≡ true → (c : ℕ) × (c < length (t ∷ ts)) × (feeds_of (get_or (t ∷ ts) c none) i j ≡ true)
feeds_one t [] i j none h fed = (0, omega arith, fed)
feeds_one t (u ∷ ts) i j none h fed = ⊎_elim
    (λ (own : feeds_of t i j ≡ true). (0, omega arith, own))
    (λ (its : feeds_of (side_by_side u ts) i j ≡ true). let rest = feeds_one u ts i j none h.2 its in (suc rest.0, omega arith, rest.2))
    (feeds-cases t (side_by_side u ts) h.0 i j fed)

-- the widths that all ask for
top_low : (o : Option ℤ) → int_max (greater_of (pos 0) o) (pos 0) ≡ greater_of (pos 0) o
top_low None = omega (arith, ints, clamps)
top_low (Some x) = omega (arith, ints, clamps)

widest_is : (t : Timing) (ts : List Timing) (p : ℕ) → widest (t ∷ ts) p ≡ least_width (side_by_side t ts).flat p
widest_is t [] p = top_low (greatest_of (map (λ (e : Element). e.width) (filter (λ (e : Element). e.phase == p) t.flat.elements)))
widest_is t (u ∷ ts) p = ap (int_max (least_width t.flat p)) (widest_is u ts p) ∙ sym (width_beside t (side_by_side u ts) p)

-- each corner is a system, with the phases and the bounds of the first
pub system_at : (ts : List Timing) (c : ℕ) (none : Timing) → AreSystems ts → c < length ts →
    IsDesign (get_or ts c none).flat × IsTiming (get_or ts c none).flat (get_or ts c none).order (get_or ts c none).pairs
system_at [] c none h below = absurd (omega arith)
system_at (t ∷ ts) zero none h below = (h.0, h.1)
system_at (t ∷ ts) (suc c) none h below = system_at ts c none h.2 (omega arith)

own_clock : (t : Timing) (ts : List Timing) (c : ℕ) (none : Timing) → AreCorners (t ∷ ts) → c < length (t ∷ ts) →
    (phase_count (get_or (t ∷ ts) c none).flat ≡ phase_count t.flat) × ((get_or (t ∷ ts) c none).flat.bounds ≡ t.flat.bounds)
own_clock t ts zero none are below = (refl, refl)
own_clock t [] (suc c) none are below = absurd (omega arith)
own_clock t (u ∷ ts) (suc c) none are below =
    let rest = own_clock u ts c none (differ-from t u ts are.0 are.1) (omega arith) in
    (rest.0 ∙ ap length are.0.phases, rest.1 ∙ are.0.bounds)

point_low : (k : ℕ) (p : Point) → IsPoint k p → point_node p ≤ 2 * k
point_low k point.Origin h = omega arith
point_low k (point.Start p) h = omega arith
point_low k (point.End p) h = omega arith

-- links as they follow from elements and nodes
abbrev opens : ℕ → ℕ → Element → Link
opens l x e = link (kind.Opening l) (start_node e.phase) x (cond e.flop (neg_ℤ e.setup) (e.cq_max -ℤ e.dq_max)) 0

abbrev keeps : ℕ → Element → Link
keeps l e = link (kind.Opened l) (start_node e.phase) (end_node e.phase) e.setup 0

abbrev sets : ℕ → ℕ → Element → Link
sets l x e = link (kind.Setup l) x (cond e.flop (start_node e.phase) (end_node e.phase)) e.setup 0

abbrev reaches : ℕ → ℕ → ℕ → ℕ → ℤ → Element → Element → Link
reaches j l x z gap d e = link (kind.Reach j l) (cond d.flop (start_node d.phase) x) z (d.dq_max +ℤ gap) (crosses_of d.phase e.phase)

same_link : (which : LinkKind) (a a' z z' : ℕ) (gap gap' : ℤ) (laps : ℕ) → a ≡ a' → z ≡ z' → gap ≡ gap' → link which a z gap laps ≡ link which a' z' gap' laps
same_link which a a' z z' gap gap' laps e f g = rw (e, f, g) refl

module _ (t : Timing) (ts : List Timing) (are : AreCorners (t ∷ ts)) (systems : AreSystems (t ∷ ts)) (besides : AreBeside t ts) where
  abbrev big : Timing
  big = side_by_side t ts

  abbrev clock : ℕ
  clock = 2 * phase_count t.flat

  abbrev joint_link : ℕ → Link → Link
  joint_link c = lifted_link (widest (t ∷ ts)) clock (elements_before (t ∷ ts) c)

  module _ (c : ℕ) (below : c < length (t ∷ ts)) where
    abbrev own : Timing
    own = corner_of t ts c

    abbrev off : ℕ
    off = elements_before (t ∷ ts) c

    pub own_design : IsDesign own.flat
    own_design = (system_at (t ∷ ts) c t systems below).0

    pub own_kept : IsTiming own.flat own.order own.pairs
    own_kept = (system_at (t ∷ ts) c t systems below).1

    pub same_phases : phase_count own.flat ≡ phase_count big.flat
    same_phases = (own_clock t ts c t are below).0 ∙ sym (phases_are t ts)

    pub same_bounds : own.flat.bounds ≡ big.flat.bounds
    same_bounds = (own_clock t ts c t are below).1 ∙ sym (bounds-same t ts)

    -- the nodes of the clock, of which each corner has the same, and those of elements
    stays : (x : ℕ) → x ≤ 2 * phase_count own.flat → x ≡ lifted_node clock off x
    stays x h = let same = (own_clock t ts c t are below).0 in grind (arith, nat_tests)

    goes : (l : ℕ) → element_node big.flat (off + l) ≡ lifted_node clock off (element_node own.flat l)
    goes l =
        let one = (own_clock t ts c t are below).0 in
        let two = phases_are t ts in
        grind (arith, nat_tests)

    of_clock : (which : LinkKind) (a z : ℕ) (gap gap' : ℤ) (laps : ℕ) → a ≤ 2 * phase_count own.flat → z ≤ 2 * phase_count own.flat → gap ≡ gap' → link which a z gap laps ≡ link which (lifted_node clock off a) (lifted_node clock off z) gap' laps
    of_clock which a z gap gap' laps low high same = same_link which a _ z _ gap gap' laps (stays a low) (stays z high) same

    element_is : (l : ℕ) → l < element_count own.flat → element_at big.flat (off + l) ≡ element_at own.flat l
    element_is l h = element_among t ts c l t below h

    phase_low : (l : ℕ) → l < element_count own.flat → phase_of own.flat l ≤ phase_count own.flat
    phase_low l h = (own_design.each_element l no_element h).phase.1

    closing : (flop : Bool) (p : ℕ) → p ≤ phase_count own.flat → cond flop (start_node p) (end_node p) ≡ lifted_node clock off (cond flop (start_node p) (end_node p))
    closing true p h = stays (start_node p) (omega arith)
    closing false p h = stays (end_node p) (omega arith)

    output : (flop : Bool) (p l : ℕ) → p ≤ phase_count own.flat → cond flop (start_node p) (element_node big.flat (off + l)) ≡ lifted_node clock off (cond flop (start_node p) (element_node own.flat l))
    output true p l h = stays (start_node p) (omega arith)
    output false p l h = goes l

    -- links of elements
    pub opening_is : (l : ℕ) → l < element_count own.flat → opening_link big.flat (off + l) ≡ joint_link c (opening_link own.flat l)
    opening_is l h =
        let low = phase_low l h in
        ap (λ (e : Element). opens (off + l) (element_node big.flat (off + l)) e) (element_is l h) ∙ same_link (kind.Opening (off + l)) _ _ _ _ _ _ 0 (stays (start_node (phase_of own.flat l)) (omega arith)) (goes l) refl

    pub opened_is : (l : ℕ) → l < element_count own.flat → opened_link big.flat (off + l) ≡ joint_link c (opened_link own.flat l)
    opened_is l h =
        let low = phase_low l h in
        ap (λ (e : Element). keeps (off + l) e) (element_is l h) ∙ of_clock (kind.Opened (off + l)) (start_node (phase_of own.flat l)) (end_node (phase_of own.flat l)) _ _ 0 (omega arith) (omega arith) refl

    pub setup_is : (l : ℕ) → l < element_count own.flat → setup_link big.flat (off + l) ≡ joint_link c (setup_link own.flat l)
    setup_is l h =
        ap (λ (e : Element). sets (off + l) (element_node big.flat (off + l)) e) (element_is l h)
        ∙ same_link (kind.Setup (off + l)) _ _ _ _ _ _ 0 (goes l) (closing (element_at own.flat l).flop (phase_of own.flat l) (phase_low l h)) refl

    pub reach_is : (j l : ℕ) (gap : ℤ) → j < element_count own.flat → l < element_count own.flat → reach_link big.flat (off + j) (off + l) gap ≡ joint_link c (reach_link own.flat j l gap)
    reach_is j l gap g h =
        ap (λ (d : Element). reaches (off + j) (off + l) (element_node big.flat (off + j)) (element_node big.flat (off + l)) gap d (element_at big.flat (off + l))) (element_is j g)
        ∙ ap (λ (e : Element). reaches (off + j) (off + l) (element_node big.flat (off + j)) (element_node big.flat (off + l)) gap (element_at own.flat j) e) (element_is l h)
        ∙ same_link (kind.Reach (off + j) (off + l)) _ _ _ _ _ _ _ (output (element_at own.flat j).flop (phase_of own.flat j) j (phase_low j g)) (goes l) refl

    bound_is : (n : ℕ) (e : Bound) → n < length own.flat.bounds → bound_link n (get_or big.flat.bounds n e) ≡ joint_link c (bound_link n (get_or own.flat.bounds n e))
    bound_is n e h =
        let b = get_or own.flat.bounds n e in
        let in_range = own_design.each_bound n e h in
        ap (λ (bs : List Bound). bound_link n (get_or bs n e)) (sym same_bounds)
        ∙ of_clock (kind.Bound n) (point_node b.from) (point_node b.to) _ _ _ (point_low (phase_count own.flat) b.from in_range.from) (point_low (phase_count own.flat) b.to in_range.to) refl

    -- those of the clock and of bounds
    pub clock_is : (m : Member) → IsOfClock m → IsMember own m → link_of big.flat m ≡ joint_link c (link_of own.flat m)
    clock_is (member.Start p) of_it h = of_clock (kind.Start p) 0 (start_node p) _ _ 0 (omega arith) (omega arith) refl
    clock_is (member.Cycle p) of_it h = of_clock (kind.Cycle p) (start_node p) 0 _ _ 1 (omega arith) (omega arith) refl
    clock_is (member.Order p) of_it h = of_clock (kind.Order p) (start_node p) (start_node (p + 1)) _ _ 0 (omega arith) (omega arith) refl
    clock_is (member.Span p) of_it h = of_clock (kind.Span p) (end_node p) (start_node p) _ _ 1 (omega arith) (omega arith) refl
    clock_is (member.Width p) of_it h = of_clock (kind.Width p) (start_node p) (end_node p) _ _ 0 (omega arith) (omega arith) (sym (widest_is t ts p))
    clock_is (member.Apart i j) of_it h = of_clock (kind.Apart i j) (end_node j) (start_node i) _ _ _ (omega arith) (omega arith) refl
    clock_is (member.Bound n) of_it h = bound_is n no_bound h
    clock_is (member.Opening l) of_it h = absurd of_it
    clock_is (member.Opened l) of_it h = absurd of_it
    clock_is (member.Reach j l path) of_it h = absurd of_it
    clock_is (member.Setup l) of_it h = absurd of_it

    pub in_all : (p : ℕ) → IsPhase (phase_count own.flat) p → IsPhase (phase_count big.flat) p
    in_all p h = subst (λ (k : ℕ). IsPhase k p) same_phases h

    pub fed_in_all : (i j : ℕ) → feeds_of own i j ≡ true → feeds_of big i j ≡ true
    fed_in_all i j fed = feeds_all t ts c i j t besides below fed

    in_one : (p : ℕ) → IsPhase (phase_count big.flat) p → IsPhase (phase_count own.flat) p
    in_one p h = subst (λ (k : ℕ). IsPhase k p) (sym same_phases) h

    abbrev pair_of : Timing → ℕ → Link
    pair_of x m = reach_link x.flat (pair_at x m).from (pair_at x m).to (pair_at x m).max

    pair_is : (m : ℕ) → m < pair_count own → pair_of big (before_one pair_count (t ∷ ts) c + m) ≡ joint_link c (pair_of own m)
    pair_is m h =
        let at = pair_among t ts c m t below h in
        let ends = ends_of own own_kept.extremes m no_pair h in
        rw (at.0, at.1, at.2) (reach_is (pair_at own m).from (pair_at own m).to (pair_at own m).max ends.0 ends.1)

    among_elements : (l : ℕ) → l < element_count own.flat → off + l < element_count big.flat
    among_elements l h = among_all elements_in elements_sum t ts c l t below h

    -- what holds of each link of all, holds of each of the corner, as it is numbered among all
    pub one_of_all : (P : Link → Type 0) → EachKind big P → EachKind own (λ k. P (joint_link c k))
    one_of_all P all = record {
      start = λ p h. subst P (clock_is (member.Start p) tt h) (all.start p (in_all p h));
      cycle = λ p h. subst P (clock_is (member.Cycle p) tt h) (all.cycle p (in_all p h));
      order = λ p low high. subst P (clock_is (member.Order p) tt (low, high)) (all.order p low (let same = same_phases in omega arith));
      span = λ p h. subst P (clock_is (member.Span p) tt h) (all.span p (in_all p h));
      width = λ p h. subst P (clock_is (member.Width p) tt h) (all.width p (in_all p h));
      apart = λ i j g h fed. subst P (clock_is (member.Apart i j) tt (g, h, fed)) (all.apart i j (in_all i g) (in_all j h) (fed_in_all i j fed));
      opening = λ l h. subst P (opening_is l h) (all.opening (off + l) (among_elements l h));
      opened = λ l h latch. subst P (opened_is l h) (all.opened (off + l) (among_elements l h) (ap (λ (e : Element). e.flop) (element_is l h) ∙ latch));
      reach = λ m h. subst P (pair_is m h) (all.reach (before_one pair_count (t ∷ ts) c + m) (among_all pair_count pairs_sum t ts c m t below h));
      setup = λ l h. subst P (setup_is l h) (all.setup (off + l) (among_elements l h));
      bound = λ n e h. subst P (bound_is n e h) (all.bound n e (subst (λ (bs : List Bound). n < length bs) same_bounds h));
    }

  -- and what holds of those of each corner, holds of all
  module _ (P : Link → Type 0) (each : (c : ℕ) → c < length (t ∷ ts) → EachKind (corner_of t ts c) (λ k. P (joint_link c k))) where
    first : EachKind t (λ k. P (joint_link 0 k))
    first = each 0 (omega arith)

    by_first : (m : Member) → IsOfClock m → IsMember t m → P (joint_link 0 (link_of t.flat m)) → P (link_of big.flat m)
    by_first m of_it h holds = subst P (sym (clock_is 0 (omega arith) m of_it h)) holds

    in_first : (p : ℕ) → IsPhase (phase_count big.flat) p → IsPhase (phase_count t.flat) p
    in_first p h = in_one 0 (omega arith) p h

    by_element : (Q : ℕ → Type 0) → ((c : ℕ) (below : c < length (t ∷ ts)) (l : ℕ) → l < element_count (corner_of t ts c).flat → Q (elements_before (t ∷ ts) c + l)) → (x : ℕ) → x < element_count big.flat → Q x
    by_element Q holds x h = let at = of_one elements_in elements_sum t ts x t h in subst Q at.4 (holds at.0 at.1 at.2 at.3)

    pub all_of_each : EachKind big P
    all_of_each = record {
      start = λ p h. by_first (member.Start p) tt (in_first p h) (first.start p (in_first p h));
      cycle = λ p h. by_first (member.Cycle p) tt (in_first p h) (first.cycle p (in_first p h));
      order = λ p low high. let less : p < phase_count t.flat = (let same = phases_are t ts in omega arith) in by_first (member.Order p) tt (low, less) (first.order p low less);
      span = λ p h. by_first (member.Span p) tt (in_first p h) (first.span p (in_first p h));
      width = λ p h. by_first (member.Width p) tt (in_first p h) (first.width p (in_first p h));
      apart = λ i j g h fed.
          let at = feeds_one t ts i j t besides fed in
          let low = in_one at.0 at.1 i g in
          let high = in_one at.0 at.1 j h in
          subst P (sym (clock_is at.0 at.1 (member.Apart i j) tt (low, high, at.2))) ((each at.0 at.1).apart i j low high at.2);
      opening = by_element (λ x. P (opening_link big.flat x)) (λ c below l h. subst P (sym (opening_is c below l h)) ((each c below).opening l h));
      opened = by_element (λ x. (element_at big.flat x).flop ≡ false → P (opened_link big.flat x))
          (λ c below l h latch. subst P (sym (opened_is c below l h)) ((each c below).opened l h (sym (ap (λ (e : Element). e.flop) (element_is c below l h)) ∙ latch)));
      reach = λ m h.
          let at = of_one pair_count pairs_sum t ts m t h in
          subst (λ (x : ℕ). P (reach_link big.flat (pair_at big x).from (pair_at big x).to (pair_at big x).max)) at.4 (subst P (sym (pair_is at.0 at.1 at.2 at.3)) ((each at.0 at.1).reach at.2 at.3));
      setup = by_element (λ x. P (setup_link big.flat x)) (λ c below l h. subst P (sym (setup_is c below l h)) ((each c below).setup l h));
      bound = λ n e h.
          let few : n < length t.flat.bounds = subst (λ (bs : List Bound). n < length bs) (bounds-same t ts) h in
          subst P (sym (bound_is 0 (omega arith) n e few)) (first.bound n e few);
    }
