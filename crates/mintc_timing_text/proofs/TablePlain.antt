-- The lines of a table are plain, and a text has one design or one first line out of form.
use Rattle.std.proofs.Common.{◌≡◌, ℕ, zero, suc, ◌≤◌, ◌+◌, true, List, [], ◌∷◌, length, length-append, refl, ap, ◌∙◌, sym, arith, codes}
use Rattle.mintc_text.specs.declared.limits.TheConstants.{MOST_COUNT}
use Rattle.mintc_timing_text.specs.declared.table_lines.Version.{Version}
use Rattle.mintc_timing.specs.Design.{Design}
use Rattle.mintc_timing_text.specs.Fields.{IsCount, plain, IsCountLine}
use Rattle.mintc_timing_text.specs.TableText.{NextOfTable, IsWholeTable, TableLines, first, phases, phase, element, arcs, arc, bound, whole, IsElementLine, IsArcLine, IsBoundLine}
use Rattle.mintc_timing_text.proofs.SharedFieldsLaws.{seen, read_back}
use Rattle.mintc_timing_text.proofs.SharedLineLaws.{IsForm, word_form, count_form, name_form}
use Rattle.mintc_timing_text.proofs.TableOne.{element_one, bound_one}
use Rattle.mintc_timing_text.proofs.TableReading.{plain-element_line, seen_points, length-inner_names}
use Rattle.mintc_timing_text.proofs.SharedTextLaws.{IsPlainFormat, IsPlainStep, plain_step, no_step, ArePlainTexts, plain_texts}

-- the counts of a design whose lists are counted in its text
abbrev pub IsCounted : Design → Type 0
IsCounted d = IsCount (length d.phases) × IsCount (length d.elements) × IsCount (length d.inner)

abbrev pub Counted : TableLines → Type 0
Counted first = Unit {0}
Counted (phases v) = Unit {0}
Counted (phase v left d) = (length d.phases + left ≤ MOST_COUNT) × (d.elements ≡ [])
Counted (element v left d) = IsCount (length d.phases) × (length d.elements + left ≤ MOST_COUNT)
Counted (arcs d) = IsCounted d
Counted (arc left d) = IsCounted d
Counted (bound left d) = IsCounted d
Counted (whole d) = Unit {0}

-- the first line was read
abbrev pub Begun : TableLines → Type 0
Begun first = ⊥
Begun lines = Unit {0}

abbrev pub After : TableLines → Type 0
After state = Counted state × Begun state

-- the forms of a table's lines
pub total_form : (word : List ℕ) (least : ℕ) → plain word ≡ true → IsForm (IsCountLine word least MOST_COUNT)
total_form word least h = count_form word least MOST_COUNT h (omega arith)

pub element_form : (v : Version) (k : ℕ) → IsCount k → IsForm (IsElementLine v k)
element_form v k few = record { plain = plain-element_line v k (omega (arith, few)); one = element_one v k few; words = λ e ws xs h g. h.spelled ∙ sym g.spelled }

pub arc_form : (n m : ℕ) → IsCount n → IsCount m → IsForm (IsArcLine n m)
arc_form n m few little = record { plain = λ x ws h. grind (arith, seen); one = λ x y ws h g. grind (arith, read_back); words = λ x ws xs h g. grind arith }

pub bound_form : (k : ℕ) → IsCount k → IsForm (IsBoundLine k)
bound_form k few = record { plain = λ x ws h. grind (arith, seen_points); one = bound_one k few; words = λ x ws xs h g. h.1 ∙ sym g.1 }

pub table_step : (a : TableLines) → Counted a → IsPlainStep (NextOfTable a) After
table_step first p = plain_step (count_form (codes "table") 1 3 refl (omega arith)) (λ n ws h. (tt, tt))
table_step (phases v) p = plain_step (total_form (codes "phases") 1 refl) (λ k ws h. ((omega (arith, h.1), refl), tt))
table_step (phase v (suc left) d) p = plain_step (name_form (codes "phase") refl) (λ name ws h. ((omega (arith, p.0, length-append d.phases (name ∷ [])), p.1), tt))
table_step (phase v zero d) p = plain_step (total_form (codes "elements") 0 refl) (λ n ws h. ((omega (arith, p.0), omega (arith, ap length p.1, h.1)), tt))
table_step (element v (suc left) d) p = plain_step (element_form v (length d.phases) p.0) (λ e ws h. ((p.0, omega (arith, p.1, length-append d.elements (e ∷ []))), tt))
table_step (element v zero d) p =
    plain_step (total_form (codes "inner") 0 refl) (λ m ws h. ((p.0, omega (arith, p.1), omega (arith, h.1, length-inner_names m)), tt))
table_step (arcs d) p = plain_step (total_form (codes "arcs") 0 refl) (λ n ws h. (p, tt))
table_step (arc (suc left) d) p = plain_step (arc_form (length d.elements) (length d.inner) p.1 p.2) (λ x ws h. (p, tt))
table_step (arc zero d) p = plain_step (total_form (codes "bounds") 0 refl) (λ n ws h. (p, tt))
table_step (bound (suc left) d) p = plain_step (bound_form (length d.phases) p.0) (λ x ws h. (p, tt))
table_step (bound zero d) p = plain_step (word_form (codes "end") refl) (λ u ws h. (tt, tt))
table_step (whole d) p = no_step

pub table_plain : IsPlainFormat NextOfTable Counted
table_plain = record {
  keeps = λ a b line p h. ((table_step a p).keeps b line h).0;
  one = λ a b c line p h g. (table_step a p).one b c line h g;
  free = λ a b line p h. (table_step a p).free b line h;
}

pub table_texts : ArePlainTexts NextOfTable IsWholeTable first whole
table_texts = plain_texts whole table_plain tt (λ c d e. cc e) (λ d. tt)
