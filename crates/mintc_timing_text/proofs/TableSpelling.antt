-- Tables that are one value have one text.
use Rattle.std.proofs.Common.{◌≡◌, ℕ, zero, suc, List, [], length, refl, ap, ◌∙◌, sym, subst, codes}
use Rattle.mintc_timing.specs.Design.{Design}
use Rattle.mintc_timing_text.specs.TextLaws.{HaveOneScheduleText, HaveOneTableText}
use Rattle.mintc_timing_text.specs.TableText.{NextOfTable, TableLines, first, phases, phase, element, arcs, arc, bound, whole}
use Rattle.mintc_timing_text.proofs.ScheduleSpelling.{schedules_have_one_text}
use Rattle.mintc_timing_text.proofs.SharedLineLaws.{word_form, name_form}
use Rattle.mintc_timing_text.proofs.SharedSpelling.{Rest, rest_none, rest_back, rest_same, rest_count, IsSpelled, IsSpelledStep}
use Rattle.mintc_timing_text.proofs.SharedTextLaws.{step_by, no_way, one_text_after}
use Rattle.mintc_timing_text.proofs.TablePlain.{After, table_plain, table_step, total_form, element_form, arc_form, bound_form}
use Rattle.mintc_timing_text.proofs.TableReading.{length-inner_names}

-- what a state knows of the design to which it leads
abbrev Begins : TableLines → Design → Type 0
Begins first f = Unit {0}
Begins (phases v) f = Unit {0}
Begins (phase v left d) f = Rest d.phases f.phases left
Begins (element v left d) f = (f.phases ≡ d.phases) × Rest d.elements f.elements left
Begins (arcs d) f = (f.phases ≡ d.phases) × (f.elements ≡ d.elements) × (f.inner ≡ d.inner)
Begins (arc left d) f = (f.phases ≡ d.phases) × (f.elements ≡ d.elements) × (f.inner ≡ d.inner) × Rest d.arcs f.arcs left
Begins (bound left d) f = (f.phases ≡ d.phases) × (f.elements ≡ d.elements) × (f.inner ≡ d.inner) × (f.arcs ≡ d.arcs) × Rest d.bounds f.bounds left
Begins (whole d) f = d ≡ f

back : (a b : TableLines) (line : List ℕ) (f : Design) → NextOfTable a line b → Begins b f → Begins a f
back first b line f h g = tt
back (phases v) b line f h g = tt
back (phase v (suc left) d) b line f h g = rest_back d.phases f.phases h.0 left (subst (λ (x : TableLines). Begins x f) h.2 g)
back (phase v zero d) b line f h g = let k = subst (λ (x : TableLines). Begins x f) h.2 g in rest_none d.phases f.phases k.0
back (element v (suc left) d) b line f h g = let k = subst (λ (x : TableLines). Begins x f) h.2 g in (k.0, rest_back d.elements f.elements h.0 left k.1)
back (element v zero d) b line f h g = let k = subst (λ (x : TableLines). Begins x f) h.2 g in (k.0, rest_none d.elements f.elements k.1)
back (arcs d) b line f h g = let k = subst (λ (x : TableLines). Begins x f) h.2 g in (k.0, k.1, k.2)
back (arc (suc left) d) b line f h g = let k = subst (λ (x : TableLines). Begins x f) h.2 g in (k.0, k.1, k.2, rest_back d.arcs f.arcs h.0 left k.3)
back (arc zero d) b line f h g = let k = subst (λ (x : TableLines). Begins x f) h.2 g in (k.0, k.1, k.2, rest_none d.arcs f.arcs k.3)
back (bound (suc left) d) b line f h g = let k = subst (λ (x : TableLines). Begins x f) h.2 g in (k.0, k.1, k.2, k.3, rest_back d.bounds f.bounds h.0 left k.4)
back (bound zero d) b line f h g = subst (Begins (bound 0 d)) (subst (λ (x : TableLines). Begins x f) h.2 g) (refl, refl, refl, refl, rest_none d.bounds d.bounds refl)
back (whole d) b line f h g = absurd h

-- After the first line, whose number is the version, one line leads on.
step : (a : TableLines) (f : Design) → After a → IsSpelledStep (NextOfTable a) (λ b. Begins b f)
step first f p = no_way (λ line b h i. p.1)
step (phases v) f p = step_by (total_form (codes "phases") 1 refl) (λ m n k l. rest_count [] f.phases m n k l)
step (phase v (suc left) d) f p = step_by (name_form (codes "phase") refl) (λ x y k l. rest_same d.phases f.phases x y left left k l)
step (phase v zero d) f p = step_by (total_form (codes "elements") 0 refl) (λ m n k l. rest_count d.elements f.elements m n k.1 l.1)
step (element v (suc left) d) f p = step_by (element_form v (length d.phases) p.0.0) (λ x y k l. rest_same d.elements f.elements x y left left k.1 l.1)
step (element v zero d) f p = step_by (total_form (codes "inner") 0 refl) (λ m n k l. sym (length-inner_names m) ∙ ap length (sym k.2 ∙ l.2) ∙ length-inner_names n)
step (arcs d) f p = step_by (total_form (codes "arcs") 0 refl) (λ m n k l. rest_count d.arcs f.arcs m n k.3 l.3)
step (arc (suc left) d) f p = step_by (arc_form (length d.elements) (length d.inner) p.0.1 p.0.2) (λ x y k l. rest_same d.arcs f.arcs x y left left k.3 l.3)
step (arc zero d) f p = step_by (total_form (codes "bounds") 0 refl) (λ m n k l. rest_count d.bounds f.bounds m n k.4 l.4)
step (bound (suc left) d) f p = step_by (bound_form (length d.phases) p.0.0) (λ x y k l. rest_same d.bounds f.bounds x y left left k.4 l.4)
step (bound zero d) f p = step_by (word_form (codes "end") refl) (λ u w k l. refl)
step (whole d) f p = no_way (λ line b h i. h)

spelled : IsSpelled NextOfTable After whole Begins
spelled = record { keeps = λ a b line p h. (table_step a p.0).keeps b line h; last = λ d line b h. h; ends = λ d. refl; back = back; step = step }

tables_have_one_text : HaveOneTableText
tables_have_one_text = one_text_after table_plain spelled tt (table_step first tt).keeps (λ d e. cc e)

pub one_texts : record { schedule : HaveOneScheduleText; table : HaveOneTableText }
one_texts = record { schedule = schedules_have_one_text; table = tables_have_one_text }
