-- The members are shown by the delays and the cycles of their links among those of all corners.
use Rattle.std.proofs.Common.{◌≡◌, ℕ, zero, suc, ◌<◌, ◌≤◌, ◌+◌, ◌-◌, ◌*◌, ◌==◌, ℤ, pos, ◌+ℤ◌, ◌-ℤ◌, ◌≤ℤ◌, neg_ℤ, Bool, true, false, cond, List, [], ◌∷◌, ◌++◌, length, get_or, map, filter, Option, Some, None, arith, refl, ap, ◌∙◌, sym, subst}
use Rattle.std.specs.Int.{int_max}
use Rattle.std.specs.List.{fold, range_with_len}
use Rattle.std.proofs.Math.ListN.{get_or-append}
use Rattle.std.proofs.Math.Nat.{suc-mul}
use Rattle.std.proofs.lemmas.Int.{ints, clamps}
use Rattle.std.proofs.lemmas.List.{get_or-append-add, get_or_default, length-map, map-append}
use Rattle.std.proofs.lemmas.List.Elements.{filter-append}
use Rattle.mintc_timing.specs.declared.parts.Bound.{Bound}
use Rattle.mintc_timing.specs.declared.parts.Element.{Element}
use Rattle.mintc_timing.specs.Clocking.{crosses_of, least_width}
use Rattle.mintc_timing.specs.Design.{Timing, element_at, element_count, no_element}
use Rattle.mintc_timing.specs.Extremes.{greater_of, greatest_of}
use Rattle.mintc_timing.specs.Numbers.{DifferInNumbers}
use Rattle.mintc_timing.specs.Paths.{greatest_delay}
use Rattle.mintc_certificate.specs.declared.members.Member.{Member}
use Rattle.mintc_certificate.specs.declared.members.Member.TheVariants as member
use Rattle.mintc_certificate.specs.Valid.{link_of, no_bound}
use Rattle.mintc_timing.specs.declared.link.Link.{Link}
use Rattle.mintc_corners.specs.declared.members.CornerMember.{CornerMember}
use Rattle.mintc_corners.specs.CornerOptimum.{corner_of, IsOfCorner, link_in, link_of_corner}
use Rattle.mintc_corners.specs.Joined.{no_timing}
use Rattle.mintc_corners.specs.Joint.{AreCorners, side_by_side}
use Rattle.mintc_corners.specs.Lifted.{widest}
use Rattle.mintcx_joint.specs.Laws.{StagesAreLinks}
use Rattle.mintcx_joint.specs.Shown.{corner_at, joint_stage, shown_by, wider, widest_corner}
use Rattle.mintcx_joint.proofs.SharedShownLaws.{differ}

-- Two links take as much time and as many cycles.
record HasNumbersOf (k own : Link) : Type 0 where
  pub delay : own.delay ≡ k.delay
  pub cycles : own.cycles ≡ k.cycles

-- the greatest of 0 and numbers
top-nil : (o : Option ℤ) → greater_of (pos 0) o ≡ int_max (pos 0) (greater_of (pos 0) o)
top-nil None = omega (arith, ints, clamps)
top-nil (Some y) = omega (arith, ints, clamps)

top-cons : (x : ℤ) (o : Option ℤ) → int_max (pos 0) (greater_of x o) ≡ int_max x (greater_of (pos 0) o)
top-cons x None = omega (arith, ints, clamps)
top-cons x (Some y) = omega (arith, ints, clamps)

top-append : (xs ys : List ℤ) → greater_of (pos 0) (greatest_of (xs ++ ys)) ≡ int_max (greater_of (pos 0) (greatest_of xs)) (greater_of (pos 0) (greatest_of ys))
top-append [] ys = top-nil (greatest_of ys)
top-append (x ∷ xs) ys =
    let rest = top-append xs ys in
    let a = top-cons x (greatest_of (xs ++ ys)) in
    let b = top-cons x (greatest_of xs) in
    omega (arith, ints, clamps)

top_low : (o : Option ℤ) → int_max (greater_of (pos 0) o) (pos 0) ≡ greater_of (pos 0) o
top_low None = omega (arith, ints, clamps)
top_low (Some x) = omega (arith, ints, clamps)

-- the widths that all corners ask for
widest_is : (t : Timing) (ts : List Timing) (p : ℕ) → widest (t ∷ ts) p ≡ least_width (side_by_side t ts).flat p
widest_is t [] p = top_low (greatest_of (map (λ (e : Element). e.width) (filter (λ (e : Element). e.phase == p) t.flat.elements)))
widest_is t (u ∷ ts) p =
    let rest = (side_by_side u ts).flat.elements in
    let here = λ (es : List Element). filter (λ (e : Element). e.phase == p) es in
    let split : least_width (side_by_side t (u ∷ ts)).flat p ≡ int_max (least_width t.flat p) (least_width (side_by_side u ts).flat p) =
    rw (filter-append (λ (e : Element). e.phase == p) t.flat.elements rest, map-append (λ (e : Element). e.width) (here t.flat.elements) (here rest))
    (top-append (map (λ (e : Element). e.width) (here t.flat.elements)) (map (λ (e : Element). e.width) (here rest))) in
    ap (int_max (least_width t.flat p)) (widest_is u ts p) ∙ sym split

either : (f : ℕ → ℤ) (b : Bool) (i j : ℕ) → f (cond b i j) ≡ cond b (f i) (f j)
either f true i j = refl
either f false i j = refl

module _ (all : List Timing) (p : ℕ) where
  abbrev width : ℕ → ℤ
  width c = least_width (corner_at all c).flat p

  width_low : (c : ℕ) → pos 0 ≤ℤ width c
  width_low c = low (greatest_of (map (λ (e : Element). e.width) (filter (λ (e : Element). e.phase == p) (corner_at all c).flat.elements)))
    where
      low : (o : Option ℤ) → pos 0 ≤ℤ greater_of (pos 0) o
      low None = omega (arith, ints)
      low (Some x) = omega (arith, ints, clamps)

  -- the first of some corners with the greatest width asks for the greatest
  folded : (rest : List Timing) (a first : ℕ) → ((k : ℕ) → k < length rest → get_or all (a + k) no_timing ≡ get_or rest k no_timing) →
      width (fold (wider all p) first (range_with_len a (length rest))) ≡ int_max (width first) (widest rest p)
  folded [] a first same = let low = width_low first in omega (arith, ints, clamps)
  folded (u ∷ rest) a first same =
      let zero_more : a + 0 ≡ a = omega arith in
      let own : width a ≡ least_width u.flat p = ap (λ (v : Timing). least_width v.flat p) (ap (λ (k : ℕ). get_or all k no_timing) (sym zero_more) ∙ same 0 (omega arith)) in
      let step : width (wider all p first a) ≡ int_max (width a) (width first) = either width _ a first in
      let back = folded rest (a + 1) (wider all p first a) (λ k h. let one : a + 1 + k ≡ a + suc k = omega arith in ap (λ (n : ℕ). get_or all n no_timing) one ∙ same (suc k) (omega arith)) in
      let low = width_low first in
      omega (arith, ints, clamps)

width_is : (t : Timing) (ts : List Timing) (p : ℕ) → least_width (corner_at (t ∷ ts) (widest_corner (t ∷ ts) p)).flat p ≡ least_width (side_by_side t ts).flat p
width_is t ts p =
    let zero_more : (k : ℕ) → 0 + k ≡ k = λ k. omega arith in
    let found = folded (t ∷ ts) p (t ∷ ts) 0 0 (λ k h. ap (λ (n : ℕ). get_or (t ∷ ts) n no_timing) (zero_more k)) in
    let all = widest_is t ts p in
    let most : widest (t ∷ ts) p ≡ int_max (least_width t.flat p) (widest ts p) = refl in
    omega (arith, ints, clamps)

-- corners have as many elements each
alike : (t u : Timing) → DifferInNumbers t.flat u.flat → element_count u.flat ≡ element_count t.flat
alike t u h = sym (length-map u.flat.elements _) ∙ ap length h.elements ∙ length-map t.flat.elements _

element_among : (n : ℕ) (t : Timing) (ts : List Timing) (c l : ℕ) (none : Timing) → element_count t.flat ≡ n → ((k : ℕ) → k < length ts → element_count (get_or ts k no_timing).flat ≡ n) →
    c < length (t ∷ ts) → l < n → element_at (side_by_side t ts).flat (c * n + l) ≡ element_at (get_or (t ∷ ts) c none).flat l
element_among n t [] zero l none own each below h = let at : 0 * n + l ≡ l = omega arith in ap (λ (x : ℕ). element_at t.flat x) at
element_among n t [] (suc c) l none own each below h = absurd (omega arith)
element_among n t (u ∷ ts) zero l none own each below h =
    let at : 0 * n + l ≡ l = omega arith in
    let inside : l < length t.flat.elements = omega arith in
    ap (λ (x : ℕ). element_at (side_by_side t (u ∷ ts)).flat x) at ∙ get_or-append t.flat.elements (side_by_side u ts).flat.elements no_element l inside
element_among n t (u ∷ ts) (suc c) l none own each below h =
    let product = suc-mul c n in
    let at : suc c * n + l ≡ length t.flat.elements + (c * n + l) = omega arith in
    ap (λ (x : ℕ). element_at (side_by_side t (u ∷ ts)).flat x) at ∙ get_or-append-add t.flat.elements (side_by_side u ts).flat.elements (c * n + l) no_element
    ∙ element_among n u ts c l none (each 0 (omega arith)) (λ k g. each (suc k) (omega arith)) (omega arith) h

bounds_are : (t : Timing) (ts : List Timing) → (side_by_side t ts).flat.bounds ≡ t.flat.bounds
bounds_are t [] = refl
bounds_are t (u ∷ ts) = refl

-- delays as they follow from elements
abbrev opens : Element → ℤ
opens e = cond e.flop (neg_ℤ e.setup) (e.cq_max -ℤ e.dq_max)

module _ (t : Timing) (ts : List Timing) (are : AreCorners (t ∷ ts)) where
  abbrev big : Timing
  big = side_by_side t ts

  module _ (c : ℕ) (below : c < length (t ∷ ts)) where
    abbrev own : Timing
    own = corner_of t ts c

    count : element_count own.flat ≡ element_count t.flat
    count = of c below
      where
        of : (k : ℕ) → k < length (t ∷ ts) → element_count (corner_of t ts k).flat ≡ element_count t.flat
        of zero h = refl
        of (suc k) h = alike t (get_or ts k t) (differ t ts k t are (omega arith))

    element_is : (l : ℕ) → l < element_count own.flat → element_at big.flat (c * element_count t.flat + l) ≡ element_at own.flat l
    element_is l h =
        let same = count in
        element_among (element_count t.flat) t ts c l t refl (λ k g. alike t (get_or ts k no_timing) (differ t ts k no_timing are g)) below (omega arith)

    -- a member of a corner's elements has the delay and the cycles of its link in that corner
    of_own : (m : Member) → IsOfCorner t ts (suc c) m → HasNumbersOf (link_in t ts c m) (link_of own.flat m)
    of_own (member.Start p) h = absurd (h.1.1 tt)
    of_own (member.Cycle p) h = absurd (h.1.1 tt)
    of_own (member.Order p) h = absurd (h.1.1 tt)
    of_own (member.Span p) h = absurd (h.1.1 tt)
    of_own (member.Width p) h = absurd (h.1.1 tt)
    of_own (member.Apart i j) h = absurd (h.1.1 tt)
    of_own (member.Opening l) h = record { delay = sym (ap (λ (e : Element). opens e) (element_is l h.1.0)); cycles = refl }
    of_own (member.Opened l) h = record { delay = sym (ap (λ (e : Element). e.setup) (element_is l h.1.0.0)); cycles = refl }
    of_own (member.Reach j l path) h =
        let first = element_is j h.1.0.0 in
        let second = element_is l h.1.0.1 in
        record {
          delay = sym (ap (λ (e : Element). e.dq_max +ℤ greatest_delay own.flat.arcs path) first);
          cycles = sym (ap (λ (e : Element). crosses_of e.phase (element_at big.flat (c * element_count t.flat + l)).phase) first ∙ ap (λ (e : Element). crosses_of (element_at own.flat j).phase e.phase) second);
        }
    of_own (member.Setup l) h = record { delay = sym (ap (λ (e : Element). e.setup) (element_is l h.1.0)); cycles = refl }
    of_own (member.Bound n) h = absurd (h.1.1 tt)

    at_own : (m : Member) (k : ℕ) → k ≡ c → HasNumbersOf (link_in t ts c m) (link_of own.flat m) → HasNumbersOf (link_in t ts c m) (link_of (corner_at (t ∷ ts) k).flat m)
    at_own m k is h =
        let same : corner_of t ts c ≡ corner_at (t ∷ ts) k = get_or_default (t ∷ ts) c t no_timing below ∙ ap (λ (n : ℕ). get_or (t ∷ ts) n no_timing) (sym is) in
        subst (λ (u : Timing). HasNumbersOf (link_in t ts c m) (link_of u.flat m)) same h

  shown : (n : ℕ) (m : Member) → IsOfCorner t ts n m → HasNumbersOf (link_of_corner t ts n m) (link_of (corner_at (t ∷ ts) (shown_by (t ∷ ts) n m)).flat m)
  shown zero (member.Start p) h = record { delay = refl; cycles = refl }
  shown zero (member.Cycle p) h = record { delay = refl; cycles = refl }
  shown zero (member.Order p) h = record { delay = refl; cycles = refl }
  shown zero (member.Span p) h = record { delay = refl; cycles = refl }
  shown zero (member.Width p) h = record { delay = width_is t ts p; cycles = refl }
  shown zero (member.Apart i j) h = record { delay = refl; cycles = refl }
  shown zero (member.Opening l) h = absurd h.0
  shown zero (member.Opened l) h = absurd h.0
  shown zero (member.Reach j l path) h = absurd h.0
  shown zero (member.Setup l) h = absurd h.0
  shown zero (member.Bound n) h =
      record {
        delay = sym (ap (λ (bs : List Bound). (get_or bs n no_bound).gap) (bounds_are t ts));
        cycles = sym (ap (λ (bs : List Bound). (get_or bs n no_bound).cycles) (bounds_are t ts));
      }
  shown (suc c) (member.Start p) h = absurd (h.1.1 tt)
  shown (suc c) (member.Cycle p) h = absurd (h.1.1 tt)
  shown (suc c) (member.Order p) h = absurd (h.1.1 tt)
  shown (suc c) (member.Span p) h = absurd (h.1.1 tt)
  shown (suc c) (member.Width p) h = absurd (h.1.1 tt)
  shown (suc c) (member.Apart i j) h = absurd (h.1.1 tt)
  shown (suc c) (member.Opening l) h = at_own c h.0 (member.Opening l) (suc c - 1) (omega arith) (of_own c h.0 (member.Opening l) h)
  shown (suc c) (member.Opened l) h = at_own c h.0 (member.Opened l) (suc c - 1) (omega arith) (of_own c h.0 (member.Opened l) h)
  shown (suc c) (member.Reach j l path) h = at_own c h.0 (member.Reach j l path) (suc c - 1) (omega arith) (of_own c h.0 (member.Reach j l path) h)
  shown (suc c) (member.Setup l) h = at_own c h.0 (member.Setup l) (suc c - 1) (omega arith) (of_own c h.0 (member.Setup l) h)
  shown (suc c) (member.Bound n) h = absurd (h.1.1 tt)

pub stages_are_links_lem : StagesAreLinks
stages_are_links_lem t ts m are h = let same = shown t ts are m.corner m.member h in record { delay = same.delay; cycles = same.cycles }
