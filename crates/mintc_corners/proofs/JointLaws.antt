-- Schedules that are right in several corners.
use Rattle.std.proofs.Common.{◌≡◌, ℕ, ◌<◌, ◌≤◌, ◌+◌, ◌*◌, ℤ, List, [], ◌∷◌, ◌++◌, length, take, drop, map, arith, refl, ap, ◌∙◌, sym, subst, length-append}
use Rattle.std.proofs.lemmas.List.{length-map}
use Rattle.std.proofs.lemmas.List.Elements.{All-nil, All-append, All-map}
use Rattle.std.specs.List.{All}
use Rattle.mintc_text.specs.declared.limits.TheConstants.{MOST_ELEMENTS, MOST_PAIRS}
use Rattle.mintc_timing.specs.declared.clocking.Schedule.{Schedule}
use Rattle.mintc_timing.specs.declared.parts.Pair.{Pair}
use Rattle.mintc_timing.specs.Design.{Timing, element_count, phase_count}
use Rattle.mintc_timing.specs.Limits.{IsArc, IsDelay, IsDesign, IsElement}
use Rattle.mintc_timing.specs.Order.{IsTiming}
use Rattle.mintc_timing.specs.Right.{IsRight}
use Rattle.mintc_timing.proofs.SharedRanges.{pair-max_range}
use Rattle.mintc_timing.specs.Paths.{HasEnds}
use Rattle.mintc_timing.proofs.SharedLinkLaws.{ends_of}
use Rattle.mintc_corners.specs.Joint.{AreCorners, AreJointlyRight, beside, shifted_pair, side_by_side}
use Rattle.mintc_timing.specs.Numbers.{DifferInNumbers}
use Rattle.mintc_corners.specs.Laws.{AreBeside, AreSystems, CornersAreModest, HaveOneClock, JointCycleIsLeast, JointlyHopelessIsHopeless}
use Rattle.mintc_corners.proofs.BesideLaws.{beside_in_parts, beside_is_both_lem}

-- from all side by side to each, and back
split : (t : Timing) (ts : List Timing) (s : Schedule) (f : List ℤ) → AreBeside t ts → IsRight (side_by_side t ts) s f → (ds : List (List ℤ)) × AreJointlyRight (t ∷ ts) s ds
split t [] s f are right = (f ∷ [], (right, tt))
split t (u ∷ ts) s f are right =
    let both = (beside_is_both_lem t (side_by_side u ts) s f are.1 are.0).0 right in
    let rest = split u ts s (drop (element_count t.flat) f) are.2 both.1 in
    (take (element_count t.flat) f ∷ rest.0, (both.0, rest.1))

whole : (t : Timing) (ts : List Timing) (s : Schedule) (ds : List (List ℤ)) → AreBeside t ts → AreJointlyRight (t ∷ ts) s ds → (f : List ℤ) × IsRight (side_by_side t ts) s f
whole t ts s [] are right = absurd right
whole t [] s (d ∷ ds) are right = (d, right.0)
whole t (u ∷ ts) s (d ∷ ds) are right =
    let rest = whole u ts s ds are.2 right.1 in
    (d ++ rest.0, (beside_in_parts t (side_by_side u ts) s d rest.0 are.1 are.0 right.0.exact.count).1 (right.0, rest.1))

pub joint_cycle_is_least_lem : JointCycleIsLeast
joint_cycle_is_least_lem t ts num den are = (
  (λ least.
      let found = least.attained in
      let parts = split t ts found.0 found.1 are found.2 in
      record {
        positive = least.positive;
        attained = (found.0, parts.0, parts.1, found.3);
        least = λ s ds right. let all = whole t ts s ds are right in least.least s all.0 all.1;
      }),
  (λ least.
      let found = least.attained in
      let all = whole t ts found.0 found.1 are found.2 in
      record {
        positive = least.positive;
        attained = (found.0, all.0, all.1, found.3);
        least = λ s f right. let parts = split t ts s f are right in least.least s parts.0 parts.1;
      }),
)

pub jointly_hopeless_is_hopeless_lem : JointlyHopelessIsHopeless
jointly_hopeless_is_hopeless_lem t ts are = (
  (λ none s ds right. let all = whole t ts s ds are right in none s all.0 all.1),
  (λ none s f right. let parts = split t ts s f are right in none s parts.0 parts.1),
)

-- what is side by side keeps the phases and the bounds of the first
phases-same : (t : Timing) (ts : List Timing) → (side_by_side t ts).flat.phases ≡ t.flat.phases
phases-same t [] = refl
phases-same t (u ∷ ts) = refl

pub phases_are : (t : Timing) (ts : List Timing) → phase_count (side_by_side t ts).flat ≡ phase_count t.flat
phases_are t ts = ap length (phases-same t ts)

pub bounds-same : (t : Timing) (ts : List Timing) → (side_by_side t ts).flat.bounds ≡ t.flat.bounds
bounds-same t [] = refl
bounds-same t (u ∷ ts) = refl

-- A design with pairs of delays in range, so many at most.
pub record IsModest (t : Timing) (most : ℕ) : Type 0 where
  pub ends : HasEnds t
  pub delays : All (λ (p : Pair). IsDelay p.max) t.pairs
  pub few : length t.pairs ≤ most

module _ (t u : Timing) (clock : HaveOneClock t.flat u.flat) where
  beside-design : IsDesign t.flat → IsDesign u.flat → element_count (beside t u).flat ≤ MOST_ELEMENTS → IsDesign (beside t u).flat
  beside-design one two few = record {
    inner = omega arith;
    phases = one.phases;
    elements = few;
    arcs = omega arith;
    bounds = one.bounds;
    each_element = All-append (IsElement (phase_count t.flat)) t.flat.elements u.flat.elements one.each_element (subst (λ (k : ℕ). All (IsElement k) u.flat.elements) clock.phases two.each_element);
    each_arc = All-nil (IsArc (element_count (beside t u).flat) 0);
    each_bound = one.each_bound;
  }

  beside-modest : (a b c : ℕ) → a + b ≤ c → IsModest t a → IsModest u b → IsModest (beside t u) c
  beside-modest a b c sum one two =
      let all = length-append t.flat.elements u.flat.elements in
      record {
        ends = All-append (λ (p : Pair). (p.from < element_count (beside t u).flat) × (p.to < element_count (beside t u).flat)) t.pairs (map (shifted_pair (element_count t.flat)) u.pairs)
            (λ n d h. let here = one.ends n d h in (omega arith, omega arith))
            (All-map (λ (p : Pair). (p.from < element_count (beside t u).flat) × (p.to < element_count (beside t u).flat)) (shifted_pair (element_count t.flat)) u.pairs
            (λ n d h. let here = two.ends n d h in (omega arith, omega arith)));
        delays = All-append (λ (p : Pair). IsDelay p.max) t.pairs (map (shifted_pair (element_count t.flat)) u.pairs) one.delays
            (All-map (λ (p : Pair). IsDelay p.max) (shifted_pair (element_count t.flat)) u.pairs (λ n d h. two.delays n d h));
        few =
            (let whole = length-append t.pairs (map (shifted_pair (element_count t.flat)) u.pairs) in
            let mapped = length-map u.pairs (shifted_pair (element_count t.flat)) in
            omega arith);
      }

system-modest : (t : Timing) → IsDesign t.flat → IsTiming t.flat t.order t.pairs → IsModest t MOST_PAIRS
system-modest t limits kept = record {
  ends = ends_of t kept.extremes;
  delays = λ n d h. pair-max_range t.flat t.order t.pairs limits kept n d h;
  few = kept.few;
}

-- each corner differs in numbers alone from the one before
pub differ-from : (t u : Timing) (ts : List Timing) → DifferInNumbers t.flat u.flat → AreCorners (t ∷ ts) → AreCorners (u ∷ ts)
differ-from t u [] h are = tt
differ-from t u (v ∷ ts) h are = (
  record {
    phases = are.0.phases ∙ sym h.phases;
    elements = are.0.elements ∙ sym h.elements;
    inner = are.0.inner ∙ sym h.inner;
    arcs = are.0.arcs ∙ sym h.arcs;
    bounds = are.0.bounds ∙ sym h.bounds;
  },
  differ-from t u ts h are.1,
)

pub one-clock : (t u : Timing) (ts : List Timing) → DifferInNumbers t.flat u.flat → HaveOneClock t.flat (side_by_side u ts).flat
one-clock t u ts h = record { phases = ap length (phases-same u ts ∙ h.phases); bounds = bounds-same u ts ∙ h.bounds }

abbrev pub Modest : Timing → List Timing → Type 0
Modest t ts = AreBeside t ts × IsDesign (side_by_side t ts).flat × IsModest (side_by_side t ts) (MOST_PAIRS * (1 + length ts))

pub modest-all : (t : Timing) (ts : List Timing) → AreCorners (t ∷ ts) → AreSystems (t ∷ ts) → element_count (side_by_side t ts).flat ≤ MOST_ELEMENTS → Modest t ts
modest-all t [] are systems few = (ends_of t systems.1.extremes, systems.0, system-modest t systems.0 systems.1)
modest-all t (u ∷ ts) are systems few =
    let clock = one-clock t u ts are.0 in
    let all = length-append t.flat.elements (side_by_side u ts).flat.elements in
    let rest = modest-all u ts (differ-from t u ts are.0 are.1) systems.2 (omega arith) in (
      (ends_of t systems.1.extremes, clock, rest.0),
      beside-design t (side_by_side u ts) clock systems.0 rest.1 few,
      beside-modest t (side_by_side u ts) clock MOST_PAIRS (MOST_PAIRS * (1 + length ts)) (MOST_PAIRS * (1 + length (u ∷ ts))) (omega arith) (system-modest t systems.0 systems.1) rest.2,
    )

pub corners_are_modest_lem : CornersAreModest
corners_are_modest_lem t ts are systems most few =
    let all = modest-all t ts are systems few in
    let modest = all.2 in
    (all.0, all.1, record { ends = modest.ends; delays = modest.delays; few = let pairs = modest.few in omega arith })
