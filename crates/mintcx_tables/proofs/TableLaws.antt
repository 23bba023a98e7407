-- The lines that are written are those of a table.
use Rattle.std.proofs.Common.{◌≡◌, ◌<◌, ◌≤◌, ◌+◌, ◌*◌, ◌-◌, ◌/◌, inl, inr, ℕ, List, [], ◌∷◌, ◌++◌, length, map, All, Bool, true, false, nat_le, if◌then◌else◌, codes, refl, ap, ◌∙◌, sym, subst, arith, Contains}
use Rattle.std.proofs.Math.Nat.{div-add-mod}
use Rattle.std.proofs.lemmas.Bool.{leb-false, leb-true}
use Rattle.std.proofs.lemmas.List.Elements.{All-head, All-tail}
use Rattle.std.proofs.lemmas.List.FromFn.{length-map-range_with_len}
use Rattle.std.specs.Fmt.{digits}
use Rattle.std.specs.List.{AllZip}
use Rattle.mintc_text.specs.Lines.{ended, text_of, words, numeral_of}
use Rattle.mintc_timing.specs.Design.{Design}
use Rattle.mintc_timing.specs.Limits.{IsArc, IsBound, IsDesign, IsElement}
use Rattle.mintc_timing.specs.declared.parts.Bound.{Bound}
use Rattle.mintc_timing.specs.declared.parts.Element.{Element}
use Rattle.mintc_timing.specs.declared.parts.TimingArc.{TimingArc}
use Rattle.mintc_timing_text.specs.Fields.{IsName, IsNameLine, Spells, number}
use Rattle.mintc_timing_text.specs.LineForms.{count_line}
use Rattle.mintc_timing_text.specs.TableForms.{AreTableLines}
use Rattle.mintc_timing_text.specs.TableText.{IsArcLine, IsBoundLine, IsElementLine, IsFromWord, IsTableText, IsToWord, element_words, inner_names, point_word, version_of}
use Rattle.mintc_timing_text.specs.TextLaws.{HaveOneTableText, TableTextsAreTheirLines}
use Rattle.mintcx_tables.specs.Lines.{arc_line, arc_lines, bit_word, bound_line, bound_lines, element_line, element_lines, phase_line, phase_lines, table_lines}
use Rattle.mintcx_tables.specs.Obstacles.{HasNames, IsNamed}
use Rattle.mintcx_tables.specs.Tables.{HaveOneTable, IsTableOf, numbered}

-- ---- the words of bits

-- the word of a bit, by whether it is an inner one
abbrev word_by : List ℕ → ℕ → ℕ → Bool → List ℕ
word_by letter n bit inner = if inner then codes "n" ++ number (bit - 2 * n) else letter ++ number (bit / 2)

from_by : (n m bit : ℕ) (inner : Bool) → nat_le (2 * n) bit ≡ inner → bit < 2 * n + m → ((l : ℕ) → l < n → bit ≡ 2 * l → ⊥) →
    IsFromWord n m (word_by (codes "q") n bit inner) bit
from_by n m bit true e few odd =
    let high : 2 * n ≤ bit = leb-true (2 * n) bit e in
    inr (bit - 2 * n, omega (arith, high, few), refl, omega (arith, high))
from_by n m bit false e few odd =
    let parts = div-add-mod bit 2 in
    let low : bit < 2 * n = leb-false (2 * n) bit e in
    let half : bit / 2 < n = omega (arith, low, parts) in
    inl (bit / 2, half, refl, omega (arith, parts, λ (h : bit ≡ 2 * (bit / 2)). odd (bit / 2) half h))

to_by : (n m bit : ℕ) (inner : Bool) → nat_le (2 * n) bit ≡ inner → bit < 2 * n + m → ((l : ℕ) → l < n → bit ≡ 2 * l + 1 → ⊥) →
    IsToWord n m (word_by (codes "d") n bit inner) bit
to_by n m bit true e few even =
    let high : 2 * n ≤ bit = leb-true (2 * n) bit e in
    inr (bit - 2 * n, omega (arith, high, few), refl, omega (arith, high))
to_by n m bit false e few even =
    let parts = div-add-mod bit 2 in
    let low : bit < 2 * n = leb-false (2 * n) bit e in
    let half : bit / 2 < n = omega (arith, low, parts) in
    inl (bit / 2, half, refl, omega (arith, parts, λ (h : bit ≡ 2 * (bit / 2) + 1). even (bit / 2) half h))

-- ---- the lines of parts

-- a line for each item
each_line : {X : Type 0} (P : X → Type 0) (F : X → List (List ℕ) → Type 0) (spelled : X → List (List ℕ)) → ((x : X) → P x → F x (spelled x)) →
    (xs : List X) → All P xs → AllZip (Spells F) xs (map (λ x. words (spelled x)) xs)
each_line P F spelled spells [] all = tt
each_line P F spelled spells (x ∷ xs) all =
    ((spelled x, spells x (All-head P x xs all), refl), each_line P F spelled spells xs (All-tail P x xs all))

-- an element is in its ranges, and has a name that a table can have
abbrev IsSaid : ℕ → Element → Type 0
IsSaid k e = IsElement k e × IsNamed e

both : {X : Type 0} (P Q : X → Type 0) (xs : List X) → All P xs → All Q xs → All (λ x. P x × Q x) xs
both P Q xs h g k d inside = (h k d inside, g k d inside)

arc_spelled : (n m : ℕ) (x : TimingArc) → IsArc n m x →
    IsArcLine n m x (codes "arc" ∷ bit_word (codes "q") n x.from ∷ bit_word (codes "d") n x.to ∷ numeral_of x.min ∷ numeral_of x.max ∷ [])
arc_spelled n m x is = record {
  delays = record { low_is = is.min; high_is = is.max; ordered = is.ordered };
  source = bit_word (codes "q") n x.from;
  target = bit_word (codes "d") n x.to;
  leaves = from_by n m x.from (nat_le (2 * n) x.from) refl is.from is.leaves;
  enters = to_by n m x.to (nat_le (2 * n) x.to) refl is.to is.enters;
  spelled = refl;
}

-- ---- all lines

pub are_lines : (d : Design) → IsDesign d → HasNames d → AreTableLines (version_of 3) (numbered d) (table_lines d)
unfolding digits
are_lines d is names =
    let k = length d.phases in
    let n = length d.elements in
    let m = length d.inner in
    let same : length (inner_names m) ≡ m = length-map-range_with_len (λ i. codes "n" ++ number i) 0 m in
    record {
      counts = record {
        some_phase = is.phases.0;
        phases = omega (arith, is.phases.1);
        elements = omega (arith, is.elements);
        inner = omega (arith, same, is.inner);
        arcs = omega (arith, is.arcs);
        bounds = omega (arith, is.bounds);
      };
      inner = ap inner_names (sym same);
      phases = map phase_line d.phases;
      elements = map element_line d.elements;
      arcs = map (arc_line n) d.arcs;
      bounds = map bound_line d.bounds;
      each_phase = each_line IsName (IsNameLine (codes "phase")) (λ name. codes "phase" ∷ name ∷ []) (λ name h. (h, refl)) d.phases names.phases;
      each_element = each_line (IsSaid k) (IsElementLine (version_of 3) k) (element_words (version_of 3))
          (λ e h. record { ranges = h.0; name = h.1; version = tt; spelled = refl }) d.elements (both (IsElement k) IsNamed d.elements is.each_element names.elements);
      each_arc = subst (λ (v : ℕ). AllZip (Spells (IsArcLine n v)) d.arcs (map (arc_line n) d.arcs)) (sym same)
          (each_line (IsArc n m) (IsArcLine n m)
          (λ (x : TimingArc). codes "arc" ∷ bit_word (codes "q") n x.from ∷ bit_word (codes "d") n x.to ∷ numeral_of x.min ∷ numeral_of x.max ∷ [])
          (arc_spelled n m) d.arcs is.each_arc);
      each_bound = each_line (IsBound k) (IsBoundLine k)
          (λ (x : Bound). codes "bound" ∷ point_word x.from ∷ point_word x.to ∷ numeral_of x.gap ∷ number x.cycles ∷ [])
          (λ x h. (h, refl)) d.bounds is.each_bound;
      whole = ap (λ (v : ℕ). codes "table 3" ∷ phase_lines d.phases ++ (element_lines d.elements
          ++ (count_line (codes "inner") v ∷ arc_lines n d.arcs ++ (bound_lines d.bounds ++ codes "end" ∷ [])))) (sym same);
    }

-- the lines behind the first
abbrev behind : Design → List (List ℕ)
behind d = phase_lines d.phases ++ (element_lines d.elements
    ++ (count_line (codes "inner") (length d.inner) ∷ arc_lines (length d.elements) d.arcs
    ++ (bound_lines d.bounds ++ codes "end" ∷ [])))

-- a text of these lines is the table
pub is_table_of : TableTextsAreTheirLines → (d : Design) (text : List ℕ) → IsDesign d → HasNames d → text ≡ text_of (table_lines d) → IsTableOf d text
is_table_of law d text is names same = record {
  is_table = (law text (numbered d)).1 (version_of 3, table_lines d, are_lines d is names, same);
  rest = text_of (behind d);
  third = same;
}

-- a design has one
free : (b : ℕ) → Contains (codes "table 3") b → b ≡ 10 → ⊥
free b h = grind arith

pub one_table : HaveOneTableText → HaveOneTable
one_table law d a b h g =
    let same = law (codes "table 3") h.rest g.rest (numbered d) (λ c. free 10 c refl)
    (subst (λ (t : List ℕ). IsTableText t (numbered d)) h.third h.is_table)
    (subst (λ (t : List ℕ). IsTableText t (numbered d)) g.third g.is_table) in
    h.third ∙ ap (λ (v : List ℕ). ended (codes "table 3") ++ v) same ∙ sym g.third
