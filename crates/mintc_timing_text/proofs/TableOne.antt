-- Lines of arcs, bounds and elements have one spelling.
use Rattle.std.proofs.Common.{◌≡◌, ℕ, ℤ, pos, Bool, List, get_or, refl, ap, ◌∙◌, sym, arith, codes, decimal}
use Rattle.std.proofs.lemmas.Fmt.{decimal_digit}
use Rattle.mintc_text.specs.Lines.{numeral_of}
use Rattle.mintc_text.specs.Words.{IsShort}
use Rattle.mintc_timing.specs.declared.parts.Element.{Element}
use Rattle.mintc_timing.specs.declared.parts.Bound.{Bound}
use Rattle.mintc_timing.specs.declared.parts.Point.{Point}
use Rattle.mintc_timing_text.specs.declared.table_lines.Version.{Version}
use Rattle.mintc_timing_text.specs.Fields.{IsCount, number}
use Rattle.mintc_timing.specs.Limits.{IsElement, IsDelay, IsGap, IsPoint}
use Rattle.mintc_timing_text.specs.ElementWords.{IsHold}
use Rattle.mintc_timing_text.specs.TableText.{hold_word, with_kind, element_words, IsOfVersion, IsElementLine, IsBoundLine, point_word}
use Rattle.mintc_timing_text.proofs.SharedFieldsLaws.{value, value_of, read_back}
use Rattle.mintc_timing_text.proofs.TableLineLaws.{kind_of, kind_same, after_kind, after_dq}

-- ---- the words of an element and of a bound have one value

-- a dash is no numeral
no_dash : (z : ℤ) → IsShort z → (numeral_of z ≡ numeral_of z) × (numeral_of z ≡ codes "-" → ⊥)
unfolding value
no_dash z h = (
  refl,
  λ e.
      let zero : pos 0 ≡ z = ap value (sym e) ∙ (value_of z h).1 in
      let word : decimal 0 ≡ codes "-" = ap numeral_of zero ∙ e in
      omega (arith, ap (λ w. get_or w 0 0) (sym (decimal_digit 0 (omega arith)) ∙ word)),
)

hold_same : (a b : Bool) (y z : ℤ) → IsHold a y → IsHold b z → hold_word a y ≡ hold_word b z → (a ≡ b) × (y ≡ z)
hold_same a b y z h g e = grind (arith, read_back, no_dash)

same_gap : (y z : ℤ) → IsGap y → IsGap z → numeral_of y ≡ numeral_of z → y ≡ z
same_gap y z h g e = grind (arith, read_back)

same_delay : (y z : ℤ) → IsDelay y → IsDelay z → numeral_of y ≡ numeral_of z → y ≡ z
same_delay y z h g e = grind (arith, read_back)

same_count : (m n : ℕ) → IsCount m → IsCount n → number m ≡ number n → m ≡ n
same_count m n h g e = grind (arith, read_back)

same_element : (e f : Element) → e.name ≡ f.name → e.phase ≡ f.phase → e.flop ≡ f.flop → e.setup ≡ f.setup → e.hold ≡ f.hold → e.has_hold ≡ f.has_hold → e.dq_min ≡ f.dq_min → e.dq_max ≡ f.dq_max →
    e.cq_min ≡ f.cq_min → e.cq_max ≡ f.cq_max → e.width ≡ f.width → e ≡ f
same_element e f a b c d h i j k l m n = grind arith

-- the delays from the opening edge: equal words, or equal to those from the data
openings_one : (v : Version) (k : ℕ) (e f : Element) → IsElement k e → IsElement k f → IsOfVersion v e → IsOfVersion v f → e.dq_min ≡ f.dq_min → e.dq_max ≡ f.dq_max → after_dq v e ≡ after_dq v f →
    (e.cq_min ≡ f.cq_min) × (e.cq_max ≡ f.cq_max) × (e.width ≡ f.width)
openings_one v k e f h g a b low high eq = grind (arith, read_back)

pub element_one : (v : Version) (k : ℕ) → IsCount k → (e f : Element) (ws : List (List ℕ)) → IsElementLine v k e ws → IsElementLine v k f ws → e ≡ f
element_one v k few e f ws h g =
    let words : element_words v e ≡ element_words v f = sym h.spelled ∙ g.spelled in
    let rest : with_kind v e.flop (after_kind v e) ≡ with_kind v f.flop (after_kind v f) = cc words in
    let kind = kind_same v e.flop f.flop (after_kind v e) (after_kind v f) (kind_of v e h.version) (kind_of v f g.version) rest in
    let left = kind.1 in
    let hold = hold_same e.has_hold f.has_hold e.hold f.hold (h.ranges.hold, h.ranges.no_hold) (g.ranges.hold, g.ranges.no_hold) (cc left) in
    let low = same_delay e.dq_min f.dq_min h.ranges.dq_min g.ranges.dq_min (cc left) in
    let high = same_delay e.dq_max f.dq_max h.ranges.dq_max g.ranges.dq_max (cc left) in
    let cq = openings_one v k e f h.ranges g.ranges h.version g.version low high (cc left) in
    let phase = same_count e.phase f.phase (omega (arith, h.ranges.phase)) (omega (arith, g.ranges.phase)) (cc words) in
    same_element e f (cc words) phase kind.0 (same_gap e.setup f.setup h.ranges.setup g.ranges.setup (cc left)) hold.1 hold.0 low high cq.0 cq.1 cq.2

point_one : (k : ℕ) → IsCount k → (p q : Point) → IsPoint k p → IsPoint k q → point_word p ≡ point_word q → p ≡ q
point_one k few p q h g e = grind (arith, read_back)

same_bound : (x y : Bound) → x.from ≡ y.from → x.to ≡ y.to → x.gap ≡ y.gap → x.cycles ≡ y.cycles → x ≡ y
same_bound x y a b c d = grind arith

pub bound_one : (k : ℕ) → IsCount k → (x y : Bound) (ws : List (List ℕ)) → IsBoundLine k x ws → IsBoundLine k y ws → x ≡ y
bound_one k few x y ws h g =
    let a = h.1 in let b = g.1 in
    let cycles = same_count x.cycles y.cycles (omega (arith, h.0.cycles)) (omega (arith, g.0.cycles)) cc in
    same_bound x y (point_one k few x.from y.from h.0.from g.0.from cc) (point_one k few x.to y.to h.0.to g.0.to cc) (same_gap x.gap y.gap h.0.gap g.0.gap cc) cycles
