-- A table gives a timing, or is refused.
use Rattle.std.proofs.Common.{◌≡◌, ◌≤◌, ◌+◌, ℕ, zero, suc, List, [], ◌∷◌, length, length-append, Bool, true, false, cond, Some, None, find, nat_lt, min, refl, sym, subst, inl, inr, ⊎_elim, arith}
use Rattle.std.specs.Option.{option_map}
use Rattle.std.specs.List.{All}
use Rattle.std.proofs.lemmas.Bool.Decides.{nat_tests}
use Rattle.std.proofs.lemmas.List.Elements.{All-push, All-nil}
use Rattle.mintc_text.specs.Limits.{AreLimits}
use Rattle.mintc_text.specs.Refusals.{over_limit}
use Rattle.mintc_text.specs.declared.limits.Most.{Most}
use Rattle.mintc_text.specs.declared.limits.TheConstants.{MOST_BOUNDS, MOST_PHASES, MOST_TOLD}
use Rattle.mintc_text.specs.declared.refusals.Kind.{Kind}
use Rattle.mintc_text.specs.declared.refusals.Kind.TheVariants as kind
use Rattle.mintc_text.specs.declared.refusals.Refusal.{Refusal}
use Rattle.mintc_text.specs.declared.refusals.Refusal.TheVariants as refusal
use Rattle.mintc_timing.specs.declared.parts.TimingArc.{TimingArc}
use Rattle.mintc_timing.specs.Accepted.{SystemsAreAccepted}
use Rattle.mintc_timing.specs.Design.{Design, Timing}
use Rattle.mintc_timing.specs.Limits.{IsArc, IsBound, IsDesign, IsElement, HasParts, IsWithinLimits, limit_of}
use Rattle.mintc_timing_text.specs.TableText.{NextOfTable, IsTableText, IsTableRefusal, TableLines, first, phases, phase, element, arcs, arc, bound, whole, IsArcLine}
use Rattle.mintc_timing_text.specs.TextLaws.{HaveDesignOrRefusal}
use Rattle.mintc_timing_text.proofs.SharedTextLaws.{along}
use Rattle.mintc_build.specs.Designs.{HasSystem, IsDesignRefusal}
use Rattle.mintc_build.specs.Laws.{DesignsHaveSystemsOrRefusals}
use Rattle.mintc_command_answers.specs.Sources.{Describes, no_design, no_system, file_at}
use Rattle.mintc_command_answers.specs.declared.command.Source.{Source}
use Rattle.mintc_command_answers.specs.declared.command.Source.TheVariants.{Table}
use Rattle.mintc_existence.specs.Commands.{HasTiming, TablesHaveTimings}

-- ---- what a table says is in range

IsArc-from_line : (n m : ℕ) (x : TimingArc) (ws : List (List ℕ)) → IsArcLine n m x ws → IsArc n m x
IsArc-from_line n m x ws h = grind arith

-- what is kept of a table while its lines come
abbrev HasNames : ℕ → Design → Type 0
HasNames left d = (1 ≤ length d.phases + left) × (d.elements ≡ []) × (d.arcs ≡ []) × (d.bounds ≡ [])

abbrev HasElements : Design → Type 0
HasElements d = (1 ≤ length d.phases) × All (IsElement (length d.phases)) d.elements × (d.arcs ≡ []) × (d.bounds ≡ [])

abbrev HasArcs : Design → Type 0
HasArcs d = (1 ≤ length d.phases) × All (IsElement (length d.phases)) d.elements × All (IsArc (length d.elements) (length d.inner)) d.arcs × (d.bounds ≡ [])

abbrev Keeps : TableLines → Type 0
Keeps first = Unit {0}
Keeps (phases v) = Unit {0}
Keeps (phase v left d) = HasNames left d
Keeps (element v left d) = HasElements d
Keeps (arcs d) = HasElements d
Keeps (arc left d) = HasArcs d
Keeps (bound left d) = HasParts d
Keeps (whole d) = HasParts d

all_none : {X : Type 0} (P : X → Type 0) (xs : List X) → xs ≡ [] → All P xs
all_none P xs e = subst (All P) (sym e) (All-nil P)

keeps_next : (a : TableLines) (line : List ℕ) (b : TableLines) → NextOfTable a line b → Keeps a → Keeps b
keeps_next first line b h k = subst Keeps (sym h.2) tt
keeps_next (phases v) line b h k = subst Keeps (sym h.2) (let n = h.1.1 in (omega (arith, n.0), refl, refl, refl))
keeps_next (phase v (suc left) d) line b h k = subst Keeps (sym h.2) (omega (arith, k.0, length-append d.phases (h.0 ∷ [])), k.1, k.2, k.3)
keeps_next (phase v zero d) line b h k = subst Keeps (sym h.2) (omega (arith, k.0), all_none (IsElement (length d.phases)) d.elements k.1, k.2, k.3)
keeps_next (element v (suc left) d) line b h k = subst Keeps (sym h.2) (k.0, All-push (IsElement (length d.phases)) d.elements h.0 k.1 h.1.1.ranges, k.2, k.3)
keeps_next (element v zero d) line b h k = subst Keeps (sym h.2) k
keeps_next (arcs d) line b h k = subst Keeps (sym h.2) (k.0, k.1, all_none (IsArc (length d.elements) (length d.inner)) d.arcs k.2, k.3)
keeps_next (arc (suc left) d) line b h k =
    let is_arc = IsArc-from_line (length d.elements) (length d.inner) h.0 h.1.0 h.1.1 in
    subst Keeps (sym h.2) (k.0, k.1, All-push (IsArc (length d.elements) (length d.inner)) d.arcs h.0 k.2 is_arc, k.3)
keeps_next (arc zero d) line b h k =
    subst Keeps (sym h.2) (record { some_phase = k.0; each_element = k.1; each_arc = k.2; each_bound = all_none (IsBound (length d.phases)) d.bounds k.3 })
keeps_next (bound (suc left) d) line b h k =
    subst Keeps (sym h.2) (record { some_phase = k.some_phase; each_element = k.each_element; each_arc = k.each_arc; each_bound = All-push (IsBound (length d.phases)) d.bounds h.0 k.each_bound h.1.1.0 })
keeps_next (bound zero d) line b h k = subst Keeps (sym h.2) k
keeps_next (whole d) line b h k = absurd h

parts_of : (text : List ℕ) (d : Design) → IsTableText text d → HasParts d
parts_of text d h = along NextOfTable Keeps keeps_next first h.lines (whole d) h.follows tt

-- ---- what isn't refused for a limit is within all of them

not_over : (k : Kind) (q m : ℕ) (rest : List (Kind × ℕ × ℕ)) (b : Bool) → nat_lt m q ≡ b →
    option_map (λ (x : Kind × ℕ × ℕ). refusal.Limit x.0 (min x.1 MOST_TOLD)) (cond b (Some (k, q, m)) (find (λ (x : Kind × ℕ × ℕ). nat_lt x.2 x.1) rest)) ≡ None → (q ≤ m) × (over_limit rest ≡ None)
not_over k q m rest true e h = cc
not_over k q m rest false e h = (grind (arith, nat_tests), h)

kept : (k : Kind) (q m : ℕ) (rest : List (Kind × ℕ × ℕ)) → over_limit ((k, q, m) ∷ rest) ≡ None → (q ≤ m) × (over_limit rest ≡ None)
kept k q m rest h = not_over k q m rest (nat_lt m q) refl h

module _ (most : Most) (limits : AreLimits most) (design : Design) (parts : HasParts design) (none : limit_of most design ≡ None) where
  of_inner : (length design.inner ≤ most.inner) × (over_limit ((kind.Phases, length design.phases, MOST_PHASES) ∷ (kind.Elements, length design.elements, most.elements) ∷ (kind.Arcs, length design.arcs, most.arcs) ∷ (kind.Bounds, length design.bounds, MOST_BOUNDS) ∷ []) ≡ None)
  of_inner = kept kind.Inner (length design.inner) most.inner ((kind.Phases, length design.phases, MOST_PHASES) ∷ (kind.Elements, length design.elements, most.elements) ∷ (kind.Arcs, length design.arcs, most.arcs) ∷ (kind.Bounds, length design.bounds, MOST_BOUNDS) ∷ []) none

  of_phases : (length design.phases ≤ MOST_PHASES) × (over_limit ((kind.Elements, length design.elements, most.elements) ∷ (kind.Arcs, length design.arcs, most.arcs) ∷ (kind.Bounds, length design.bounds, MOST_BOUNDS) ∷ []) ≡ None)
  of_phases = kept kind.Phases (length design.phases) MOST_PHASES ((kind.Elements, length design.elements, most.elements) ∷ (kind.Arcs, length design.arcs, most.arcs) ∷ (kind.Bounds, length design.bounds, MOST_BOUNDS) ∷ []) of_inner.1

  of_elements : (length design.elements ≤ most.elements) × (over_limit ((kind.Arcs, length design.arcs, most.arcs) ∷ (kind.Bounds, length design.bounds, MOST_BOUNDS) ∷ []) ≡ None)
  of_elements = kept kind.Elements (length design.elements) most.elements ((kind.Arcs, length design.arcs, most.arcs) ∷ (kind.Bounds, length design.bounds, MOST_BOUNDS) ∷ []) of_phases.1

  of_arcs : (length design.arcs ≤ most.arcs) × (over_limit ((kind.Bounds, length design.bounds, MOST_BOUNDS) ∷ []) ≡ None)
  of_arcs = kept kind.Arcs (length design.arcs) most.arcs ((kind.Bounds, length design.bounds, MOST_BOUNDS) ∷ []) of_elements.1

  of_bounds : (length design.bounds ≤ MOST_BOUNDS) × (over_limit [] ≡ None)
  of_bounds = kept kind.Bounds (length design.bounds) MOST_BOUNDS [] of_arcs.1

  within : IsWithinLimits most design
  within = record { inner = of_inner.0; elements = of_elements.0; arcs = of_arcs.0 }

  is_design : IsDesign design
  is_design = record {
    inner = omega (arith, of_inner.0, limits.inner);
    phases = (parts.some_phase, of_phases.0);
    elements = omega (arith, of_elements.0, limits.elements);
    arcs = omega (arith, of_arcs.0, limits.arcs);
    bounds = of_bounds.0;
    each_element = parts.each_element;
    each_arc = parts.each_arc;
    each_bound = parts.each_bound;
  }

-- ---- the timing of a design, or its refusal

pub given : DesignsHaveSystemsOrRefusals → SystemsAreAccepted → (most : Most) → AreLimits most → (source : Source) (files : List (List ℕ)) (design : Design) → Describes most source files design → HasParts design → limit_of most design ≡ None → HasTiming most source files
given systems accepted most limits source files design text parts none =
    let inside = within most limits design parts none in
    let is = is_design most limits design parts none in
    ⊎_elim
    (λ (some : (order : List ℕ) × HasSystem most design order).
    let pairs = some.1.0 in
    let timing = some.1.1 in
    let t : Timing = record { flat = design; order = some.0; pairs = pairs } in
    inl (t, record { design = text; accepted = accepted most design some.0 pairs is inside timing some.1.2; pairs = timing.extremes }, timing))
    (λ (stop : (refused : Refusal) × IsDesignRefusal most design refused). inr (stop.0, no_system design text is inside stop.1))
    (systems most limits design)

pub tables_have_timings_lem : DesignsHaveSystemsOrRefusals → SystemsAreAccepted → HaveDesignOrRefusal → TablesHaveTimings
tables_have_timings_lem systems accepted read most limits files =
    ⊎_elim
    (λ (some : (d : Design) × IsTableText (file_at files 0) d × (limit_of most d ≡ None)).
    given systems accepted most limits Table files some.0 some.1 (parts_of (file_at files 0) some.0 some.1) some.2)
    (λ (stop : (r : Refusal) × IsTableRefusal most (file_at files 0) r). inr (stop.0, no_design stop.1))
    (read most (file_at files 0))
