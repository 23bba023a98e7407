-- What is read as a table has its parts in range.
use Rattle.std.proofs.Common.{◌≡◌, ◌∙◌, ℕ, zero, suc, ◌≤◌, ◌+◌, List, [], ◌∷◌, length, length-append, All, refl, sym, subst, arith}
use Rattle.std.proofs.lemmas.List.{take_all}
use Rattle.std.proofs.lemmas.List.Elements.{All-push, All-nil}
use Rattle.mintc_text.specs.Refusals.{over_limit}
use Rattle.mintc_text.specs.declared.limits.TheConstants.{MOST_PHASES, MOST_ELEMENTS, MOST_ARCS, MOST_BOUNDS}
use Rattle.mintc_text.specs.declared.limits.Most.{Most}
use Rattle.mintc_text.specs.declared.refusals.Refusal.{Refusal}
use Rattle.mintc_text.specs.declared.refusals.Stop.{Stop}
use Rattle.mintc_text.specs.declared.refusals.Stop.TheVariants as stop
use Rattle.mintc_text.specs.Stops.{StopsAt}
use Rattle.mintc_timing.specs.declared.parts.TimingArc.{TimingArc}
use Rattle.mintc_timing_text.specs.declared.table_text.Parts.{Parts}
use Rattle.mintc_timing.specs.Design.{Design, design_of}
use Rattle.mintc_timing.specs.Limits.{IsElement, IsArc, IsBound, HasParts, limit_of, quantities}
use Rattle.mintc_timing_text.specs.TableReading.{AreKept, ArePartsOf}
use Rattle.mintc_timing_text.specs.TableText.{NextOfTable, IsTableText, TableLines, first, phases, phase, element, arcs, arc, bound, whole, inner_names, IsArcLine}
use Rattle.mintc_timing_text.proofs.TableReading.{length-inner_names}
use Rattle.mintc_timing_text.proofs.SharedTextLaws.{along}

-- ---- what a table says is in range

IsArc-from_line : (n m : ℕ) (x : TimingArc) (ws : List (List ℕ)) → IsArcLine n m x ws → IsArc n m x
IsArc-from_line n m x ws h = grind arith

-- what is kept of a table while its lines come
abbrev HasNames : ℕ → Design → Type 0
HasNames left d = (1 ≤ length d.phases + left) × (d.elements ≡ []) × (d.arcs ≡ []) × (d.bounds ≡ [])

abbrev HasElements : Design → Type 0
HasElements d = (1 ≤ length d.phases) × All (IsElement (length d.phases)) d.elements × (d.arcs ≡ []) × (d.bounds ≡ [])

abbrev HasArcs : Design → Type 0
HasArcs d = (1 ≤ length d.phases) × All (IsElement (length d.phases)) d.elements × All (IsArc (length d.elements) (length d.inner)) d.arcs × (d.bounds ≡ [])

abbrev Keeps : TableLines → Type 0
Keeps first = Unit {0}
Keeps (phases v) = Unit {0}
Keeps (phase v left d) = HasNames left d
Keeps (element v left d) = HasElements d
Keeps (arcs d) = HasElements d
Keeps (arc left d) = HasArcs d
Keeps (bound left d) = HasParts d
Keeps (whole d) = HasParts d

all_none : {X : Type 0} (P : X → Type 0) (xs : List X) → xs ≡ [] → All P xs
all_none P xs e = subst (All P) (sym e) (All-nil P)

keeps_next : (a : TableLines) (line : List ℕ) (b : TableLines) → NextOfTable a line b → Keeps a → Keeps b
keeps_next first line b h k = subst Keeps (sym h.2) tt
keeps_next (phases v) line b h k = subst Keeps (sym h.2) (let n = h.1.1 in (omega (arith, n.0), refl, refl, refl))
keeps_next (phase v (suc left) d) line b h k = subst Keeps (sym h.2) (omega (arith, k.0, length-append d.phases (h.0 ∷ [])), k.1, k.2, k.3)
keeps_next (phase v zero d) line b h k = subst Keeps (sym h.2) (omega (arith, k.0), all_none (IsElement (length d.phases)) d.elements k.1, k.2, k.3)
keeps_next (element v (suc left) d) line b h k = subst Keeps (sym h.2) (k.0, All-push (IsElement (length d.phases)) d.elements h.0 k.1 h.1.1.ranges, k.2, k.3)
keeps_next (element v zero d) line b h k = subst Keeps (sym h.2) k
keeps_next (arcs d) line b h k = subst Keeps (sym h.2) (k.0, k.1, all_none (IsArc (length d.elements) (length d.inner)) d.arcs k.2, k.3)
keeps_next (arc (suc left) d) line b h k =
    let is_arc = IsArc-from_line (length d.elements) (length d.inner) h.0 h.1.0 h.1.1 in
    subst Keeps (sym h.2) (k.0, k.1, All-push (IsArc (length d.elements) (length d.inner)) d.arcs h.0 k.2 is_arc, k.3)
keeps_next (arc zero d) line b h k =
    subst Keeps (sym h.2) (record { some_phase = k.0; each_element = k.1; each_arc = k.2; each_bound = all_none (IsBound (length d.phases)) d.bounds k.3 })
keeps_next (bound (suc left) d) line b h k =
    subst Keeps (sym h.2) (record { some_phase = k.some_phase; each_element = k.each_element; each_arc = k.each_arc; each_bound = All-push (IsBound (length d.phases)) d.bounds h.0 k.each_bound h.1.1.0 })
keeps_next (bound zero d) line b h k = subst Keeps (sym h.2) k
keeps_next (whole d) line b h k = absurd h

pub HasParts-from_text : (text : List ℕ) (d : Design) → IsTableText text d → HasParts d
HasParts-from_text text d h = along NextOfTable Keeps keeps_next first h.lines (whole d) h.follows tt

-- ---- a design and what was kept of it

pub limit_of_parts : (most : Most) (d : Design) (parts : Parts) → ArePartsOf d parts → limit_of most d ≡ over_limit (quantities most parts.inner parts.phases.count parts.elements.count parts.arcs.count parts.bounds.count)
limit_of_parts most d parts h = grind (arith, length-inner_names)

kept_whole : {X : Type 0} (most : ℕ) (all kept : List X) (count : ℕ) → AreKept most all kept count → count ≤ most → kept ≡ all
kept_whole most all kept count h few = h.front ∙ take_all most all (omega (arith, h.counted))

-- where no quantity passes its limit, all was kept
pub design_of_parts : (d : Design) (parts : Parts) (ps ns : List (List ℕ)) → ArePartsOf d parts → ps ≡ parts.phases.kept.items → ns ≡ inner_names parts.inner →
    parts.phases.count ≤ MOST_PHASES → parts.elements.count ≤ MOST_ELEMENTS → parts.arcs.count ≤ MOST_ARCS → parts.bounds.count ≤ MOST_BOUNDS →
    design_of ps parts.elements.kept.items ns parts.arcs.kept.items parts.bounds.kept.items ≡ d
design_of_parts d parts ps ns h p n few_phases few_elements few_arcs few_bounds =
    let phases = kept_whole MOST_PHASES d.phases parts.phases.kept.items parts.phases.count h.phases few_phases in
    let elements = kept_whole MOST_ELEMENTS d.elements parts.elements.kept.items parts.elements.count h.elements few_elements in
    let arcs = kept_whole MOST_ARCS d.arcs parts.arcs.kept.items parts.arcs.count h.arcs few_arcs in
    let bounds = kept_whole MOST_BOUNDS d.bounds parts.bounds.kept.items parts.bounds.count h.bounds few_bounds in
    rw (p, n, ← h.inner, phases, elements, arcs, bounds) refl

pub stops_weaker : (P Q : Refusal → Type 0) (s : Stop) → ((r : Refusal) → P r → Q r) → StopsAt P s → StopsAt Q s
stops_weaker P Q (stop.Refused r) f h = f r h
stops_weaker P Q stop.OutOfMemory f h = tt
