-- What the reader of tables has read up to each line, and where it halts.
use Rattle.std.proofs.Common.{◌≡◌, ℕ, suc, ℤ, ◌<◌, ◌≤◌, ◌+◌, ◌-◌, ◌^◌, Bool, true, List, [], ◌∷◌, ◌++◌, length, take, refl, arith, codes, length-append}
use Rattle.std.proofs.lemmas.List.FromFn.{length-map-range_with_len}
use Rattle.mintc_text.specs.declared.limits.TheConstants.{MOST_COUNT}
use Rattle.mintc_timing.specs.declared.parts.Element.{Element}
use Rattle.mintc_timing.specs.declared.parts.TimingArc.{TimingArc}
use Rattle.mintc_timing.specs.declared.parts.Bound.{Bound}
use Rattle.mintc_timing.specs.declared.parts.Point.{Point}
use Rattle.mintc_timing_text.specs.declared.table_lines.Version.{Version}
use Rattle.mintc_timing.specs.Design.{design_of}
use Rattle.mintc_timing_text.specs.Fields.{plain, plain_line, number, Spells}
use Rattle.mintc_timing.specs.Limits.{IsGap, IsPoint}
use Rattle.mintc_timing_text.specs.Reading.{Reading, HasRead, IsAt, number_after}
use Rattle.mintc_timing_text.specs.TableReading.{AreKept}
use Rattle.mintc_timing_text.specs.TableText.{NextOfTable, TableLines, first, phase, element, arc, bound, inner_names, kind_word, hold_word, IsElementLine, point_word}
use Rattle.mintc_timing_text.proofs.SharedFieldsLaws.{seen}
use Rattle.mintc_timing_text.proofs.SharedReadingLaws.{list_more, list_all}

-- ---- words that can be seen

plain_kind : (b : Bool) → plain (kind_word b) ≡ true
plain_kind b = grind arith

plain_hold : (b : Bool) (z : ℤ) → IsGap z → plain (hold_word b z) ≡ true
plain_hold b z h = grind (arith, seen)

pub plain_point : (p : Point) → IsPoint MOST_COUNT p → plain (point_word p) ≡ true
plain_point p h = grind (arith, seen)

pub plain-element_line : (v : Version) (k : ℕ) → k < 2 ^ 32 → (e : Element) (ws : List (List ℕ)) → IsElementLine v k e ws → plain_line ws ≡ true
plain-element_line v k few e ws h = grind (arith, seen, plain_kind, plain_hold)

pub ruleset seen_points = (seen, plain_point)

-- ---- the lines of a table

-- where a reader of a table is
abbrev pub At : List ℕ → Reading → TableLines → Type 0
At text reading state = IsAt NextOfTable first text reading state

-- ---- a list of a table: a state for each number of lines that are left

-- The items so far are all, and the first of them are kept.
abbrev pub SoFar : {X : Type 0} → (ℕ → List X → TableLines) → ℕ → List ℕ → Reading → List X → ℕ → ℕ → Type 0
SoFar {X} st most text reading kept i count = (all : List X) × AreKept most all kept i × At text reading (st (count - i) all)

pub so_far_more : {X : Type 0} (st : ℕ → List X → TableLines) (F : X → List (List ℕ) → Type 0) (most : ℕ) (text : List ℕ) (old new : Reading) (kept kept' : List X) (i count : ℕ) (x : X) →
    SoFar st most text old kept i count → i < count → HasRead F old.left x new.left → new.number ≡ number_after old.number →
    ((all : List X) → kept ≡ take most all → kept' ≡ take most (all ++ x ∷ [])) →
    ((left : ℕ) (all : List X) (line : List ℕ) → Spells F x line → NextOfTable (st (suc left) all) line (st left (all ++ x ∷ []))) →
    SoFar st most text new kept' (i + 1) count
so_far_more st F most text old new kept kept' i count x so low read counted keeps law = (
  so.0 ++ x ∷ [],
  record { front = keeps so.0 so.1.front; counted = omega (arith, so.1.counted, length-append so.0 (x ∷ [])) },
  list_more st F text old new so.0 (so.0 ++ x ∷ []) i count x so.2 low read counted refl law,
)

pub so_far_all : {X : Type 0} (st : ℕ → List X → TableLines) (most : ℕ) (text : List ℕ) (reading : Reading) (kept : List X) (i count : ℕ) →
    SoFar st most text reading kept i count → count ≤ i → i ≤ count → (all : List X) × AreKept most all kept count × At text reading (st 0 all)
so_far_all st most text reading kept i count so low high = (so.0, record { front = so.1.front; counted = omega (arith, so.1.counted) }, list_all st text reading so.0 i count so.2 low)

-- the states of the four lists
abbrev pub phase_states : Version → ℕ → List (List ℕ) → TableLines
phase_states v left all = phase v left (design_of all [] [] [] [])

abbrev pub element_states : Version → List (List ℕ) → ℕ → List Element → TableLines
element_states v ps left all = element v left (design_of ps all [] [] [])

abbrev pub arc_states : List (List ℕ) → List Element → List (List ℕ) → ℕ → List TimingArc → TableLines
arc_states ps es ns left all = arc left (design_of ps es ns all [])

abbrev pub bound_states : List (List ℕ) → List Element → List (List ℕ) → List TimingArc → ℕ → List Bound → TableLines
bound_states ps es ns xs left all = bound left (design_of ps es ns xs all)

pub length-inner_names : (m : ℕ) → length (inner_names m) ≡ m
length-inner_names m = length-map-range_with_len (λ i. codes "n" ++ number i) 0 m
