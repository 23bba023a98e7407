-- The design by what is gathered for it.
use Rattle.std.proofs.Common.{◌≡◌, ◌≤◌, ◌+◌, ◌*◌, ℕ, Bool, true, false, cond, min, List, ◌++◌, length, map, flat_map, zip, All, Option, Some, None, option_map, Result, Ok, Err, MatchResult, refl, sym, ap, ◌∙◌, subst, arith, length-append}
use Rattle.std.specs.Prelude.{nat_lt}
use Rattle.std.proofs.lemmas.Bool.Decides.{nat_tests}
use Rattle.std.proofs.lemmas.List.{length-map}
use Rattle.std.proofs.lemmas.List.FromFn.{length-range_with_len}
use Rattle.std.proofs.lemmas.List.Sums.{length-filter, count_by-le-length}
use Rattle.std.proofs.lemmas.Slice.Zip.{AllZip-long, length-zip}
use Rattle.mintc_text.specs.Limits.{AreLimits}
use Rattle.mintc_text.specs.Refusals.{over_limit}
use Rattle.mintc_text.specs.declared.limits.Most.{Most}
use Rattle.mintc_text.specs.declared.limits.TheConstants.{MOST_LEAVES, MOST_TOLD}
use Rattle.mintc_text.specs.Stops.{StopsAt}
use Rattle.mintc_text.specs.declared.refusals.Kind.{Kind}
use Rattle.mintc_text.specs.declared.refusals.Refusal.{Refusal}
use Rattle.mintc_text.specs.declared.refusals.Refusal.TheVariants as refusal
use Rattle.mintc_text.specs.declared.refusals.Stop.{Stop}
use Rattle.mintc_text.specs.declared.refusals.Stop.TheVariants as stop
use Rattle.mintc_clock.specs.declared.clock.Clock.{Clock}
use Rattle.mintc_flatten_hierarchy.specs.declared.hierarchy.Hierarchy.{Hierarchy}
use Rattle.mintc_flatten_hierarchy.specs.Shape.{CellTable}
use Rattle.mintc_senses_expressions.specs.declared.transitions.Transitions.{Transitions}
use Rattle.mintc_sdf_edges.specs.declared.delays.EdgeDelay.{EdgeDelay}
use Rattle.mintc_sdf_edges.specs.Laws.{HasEdges}
use Rattle.mintc_timing.specs.declared.parts.Element.{Element}
use Rattle.mintc_timing.specs.declared.parts.Bound.{Bound}
use Rattle.mintc_timing.specs.declared.parts.TimingArc.{TimingArc}
use Rattle.mintc_timing.specs.Design.{Design, design_of}
use Rattle.mintc_timing.specs.Limits.{quantities, limit_of}
use Rattle.mintc_annotate_resolve.specs.Pins.{leaf_cell, leaf_path, dotted, all_leaves, all_names, inner_name}
use Rattle.mintc_annotate_resolve.specs.Resolution.{first_refusal}
use Rattle.mintc_annotate.specs.ClockPorts.{has_ports, first_false, IsPortRefusal}
use Rattle.mintc_annotate.specs.Made.{bits_of, port_element}
use Rattle.mintc_annotate.specs.Phases.{storage, phase_spots, IsUntraced, IsPhaseOf}
use Rattle.mintc_annotate.proofs.SharedTraceLaws.{stored}
use Rattle.mintc_edges.specs.declared.designing.Gathered.{Gathered}
use Rattle.mintc_edges.specs.declared.edge.Edge.{Edge}
use Rattle.mintc_edges.specs.declared.told.Told.{Told}
use Rattle.mintc_edges.specs.Counts.{leaf_arc_count}
use Rattle.mintc_edges.specs.Edges.{edge_name}
use Rattle.mintc_edges.specs.Numbers.{SenseOf, sense_of, without_edges}
use Rattle.mintc_edges.specs.Apart.{named_at, no_later_than, port_elements, names_apart, design_apart, IsApart, IsEdgeDesign, IsEdgeRefusal, no_port, annotates_nothing, no_phase}
use Rattle.mintc_edges.specs.Gathered.{AreGathered, IsResolved, design_of_gathered}
use Rattle.mintc_edges.specs.Kept.{leaf_kept}
use Rattle.mintc_annotate.specs.Said.{element_said}
use Rattle.mintc_edges.specs.Stored.{merged_said_kept, said_kept}
use Rattle.mintc_edges.specs.Whole.{leaf_elements_kept, elements_kept, arcs_kept, design_kept}
use Rattle.mintc_edges.proofs.LimitLaws.{twice-long, arcs-long}
use Rattle.mintc_annotate.proofs.SharedCountLaws.{limits_alike}
use Rattle.mintc_edges.proofs.WholeLaws.{design-same}

-- ---- refusals
module _ (h : Hierarchy) (cells : CellTable) (clock : Clock) (ds : List EdgeDelay) where
  -- what is refused whatever the limits and the senses
  abbrev Refuses : Refusal → Type 0
  Refuses r = (most : Most) (sense : SenseOf) → IsEdgeRefusal most h cells sense clock ds r

  pub stops-port : (s : Stop) → StopsAt (IsPortRefusal (has_ports h clock)) s → StopsAt (λ r. (most : Most) (sense : SenseOf) → IsEdgeRefusal most h cells sense clock ds r) s
  stops-port (stop.Refused r) port = λ most sense. no_port port
  stops-port stop.OutOfMemory port = tt

  pub stops-resolving : (s : Stop) → first_false (has_ports h clock) ≡ None → StopsAt (λ r. first_refusal h cells (without_edges ds) ≡ Some r) s → StopsAt (λ r. (most : Most) (sense : SenseOf) → IsEdgeRefusal most h cells sense clock ds r) s
  stops-resolving (stop.Refused r) ports annotates = λ most sense. annotates_nothing ports annotates
  stops-resolving stop.OutOfMemory ports annotates = tt

  phase-refusal : (most : Most) (sense : SenseOf) (r : Refusal) → first_false (has_ports h clock) ≡ None → first_refusal h cells (without_edges ds) ≡ None → IsUntraced h cells (phase_spots h clock) r → IsEdgeRefusal most h cells sense clock ds r
  phase-refusal most sense (refusal.NoPhase e) ports annotates untraced = no_phase ports annotates e refl untraced
  phase-refusal most sense _ ports annotates untraced = absurd untraced

  pub stops-phase : (s : Stop) → first_false (has_ports h clock) ≡ None → first_refusal h cells (without_edges ds) ≡ None → StopsAt (IsUntraced h cells (phase_spots h clock)) s → StopsAt (λ r. (most : Most) (sense : SenseOf) → IsEdgeRefusal most h cells sense clock ds r) s
  stops-phase (stop.Refused r) ports annotates untraced = λ most sense. phase-refusal most sense r ports annotates untraced
  stops-phase stop.OutOfMemory ports annotates untraced = tt

  pub stops-gathering : (most : Most) (sense : SenseOf) (s : Stop) → StopsAt (λ r. (m : Most) (other : SenseOf) → IsEdgeRefusal m h cells other clock ds r) s → StopsAt (IsEdgeRefusal most h cells sense clock ds) s
  stops-gathering most sense (stop.Refused r) known = known most sense
  stops-gathering most sense stop.OutOfMemory known = tt

-- ---- how many
third-test : (a b c : Bool) (x y z : Kind × ℕ × ℕ) (rest : Option (Kind × ℕ × ℕ)) (f : Kind × ℕ × ℕ → Refusal) → option_map f (cond a (Some x) (cond b (Some y) (cond c (Some z) rest))) ≡ None → c ≡ false
third-test false false false x y z rest f e = refl
third-test _ _ _ x y z rest f e = absurd (cc)

few-elements : (most : Most) (inner phases elements arcs bounds : ℕ) → over_limit (quantities most inner phases elements arcs bounds) ≡ None → elements ≤ most.elements
few-elements most inner phases elements arcs bounds none =
    let test = third-test (nat_lt most.inner inner) (nat_lt 8 phases) (nat_lt most.elements elements) _ _ _ _ _ none in
    grind (arith, nat_tests, test)

module _ (told : Told) (senses : List (List (List Transitions))) (h : Hierarchy) (cells : CellTable) (clock : Clock) (phases : List ℕ) (same : length phases ≡ length (storage h cells)) where
  abbrev i : ℕ
  i = length (bits_of h false clock.inputs)

  abbrev o : ℕ
  o = length (bits_of h true clock.outputs)

  abbrev leaf-element : ℕ × ℕ → Edge → Element
  leaf-element x e =
      no_later_than (element_said (merged_said_kept told (leaf_kept h cells 0 x.0) (leaf_cell h cells x.0)) (dotted (leaf_path h x.0)) x.1 (leaf_cell h cells x.0))
      (element_said (said_kept told senses (leaf_kept h cells 0 x.0) (leaf_cell h cells x.0) e) (edge_name (dotted (leaf_path h x.0)) e) x.1 (leaf_cell h cells x.0))

  elements-long : length (elements_kept told senses h cells clock phases) ≡ 2 * (length phases + (i + o))
  elements-long =
      let stored : length (flat_map (leaf_elements_kept told senses h cells) (zip (storage h cells) phases)) ≡ 2 * length (zip (storage h cells) phases) = twice-long leaf-element (zip (storage h cells) phases) in
      let zipped = length-zip (storage h cells) phases in
      let ins : length (flat_map (port_elements h) (bits_of h false clock.inputs)) ≡ 2 * i = twice-long (λ x e. named_at e (port_element (all_names h) x)) (bits_of h false clock.inputs) in
      let outs : length (flat_map (port_elements h) (bits_of h true clock.outputs)) ≡ 2 * o = twice-long (λ x e. named_at e (port_element (all_names h) x)) (bits_of h true clock.outputs) in
      let outer = length-append (flat_map (leaf_elements_kept told senses h cells) (zip (storage h cells) phases) ++ flat_map (port_elements h) (bits_of h false clock.inputs)) (flat_map (port_elements h) (bits_of h true clock.outputs)) in
      let inner = length-append (flat_map (leaf_elements_kept told senses h cells) (zip (storage h cells) phases)) (flat_map (port_elements h) (bits_of h false clock.inputs)) in
      omega (arith, stored, zipped, ins, outs, outer, inner, same)

  names-long : length (names_apart h) ≡ 2 * length h.inner
  names-long = twice-long edge_name (all_names h) ∙ ap (λ k. 2 * k) (length-map h.inner (inner_name h))

  -- the limit of the design is that of its counts
  pub limit-counts : (most : Most) → limit_of most (design_kept told senses h cells clock phases)
      ≡ over_limit (quantities most (2 * length h.inner) (length clock.phases) (2 * (length phases + (i + o))) (2 * (length h.joins + (i + o)) + leaf_arc_count h cells (sense_of senses cells)) (length clock.bounds))
  limit-counts most =
      rw (names-long, length-map clock.phases (λ p. p.name), elements-long, arcs-long told senses h cells (bits_of h false clock.inputs) (bits_of h true clock.outputs)) refl

  pub few-kept : (most : Most) → limit_of most (design_kept told senses h cells clock phases) ≡ None → 2 * (length phases + (i + o)) ≤ most.elements
  few-kept most none =
      few-elements most (2 * length h.inner) (length clock.phases) (2 * (length phases + (i + o))) (2 * (length h.joins + (i + o)) + leaf_arc_count h cells (sense_of senses cells)) (length clock.bounds) (sym (limit-counts most) ∙ none)

-- by counts up to what is told
pub counts-alike : (most : Most) → AreLimits most → (inner names i o stored joins leaves bounds ins outs some-joins some-leaves elements arcs : ℕ) → ins ≡ min i MOST_TOLD → outs ≡ min o MOST_TOLD → some-joins ≡ min joins MOST_TOLD → some-leaves ≡ min leaves MOST_TOLD →
    elements ≡ 2 * (stored + (ins + outs)) → arcs ≡ 2 * (some-joins + (ins + outs)) + some-leaves →
    over_limit (quantities most inner names elements arcs bounds) ≡ over_limit (quantities most inner names (2 * (stored + (i + o))) (2 * (joins + (i + o)) + leaves) bounds)
counts-alike most kept inner names i o stored joins leaves bounds ins outs some-joins some-leaves elements arcs is-ins is-outs is-joins is-leaves is-elements is-arcs =
    limits_alike most kept inner names bounds (2 * (stored + (i + o))) elements (2 * (joins + (i + o)) + leaves) arcs (omega (arith, is-ins, is-outs, is-elements)) (omega (arith, is-ins, is-outs, is-joins, is-leaves, is-arcs))

-- ---- the whole
module _ (h : Hierarchy) (cells : CellTable) (clock : Clock) (g : Gathered) (are : AreGathered h cells clock g) where
  pub as-stored : length g.phases ≡ length (storage h cells)
  as-stored = AllZip-long (IsPhaseOf h cells (phase_spots h clock)) (storage h cells) g.phases are.traced

  pub few-stored : length h.leaves ≤ MOST_LEAVES → length g.phases ≤ MOST_LEAVES
  few-stored few =
      omega (arith, as-stored, length-filter (stored h cells) (all_leaves h), count_by-le-length (stored h cells) (all_leaves h), length-range_with_len 0 (length h.leaves), few)

  -- it is the design of the delays
  pub is-made : (senses : List (List (List Transitions))) (ds : List EdgeDelay) → All HasEdges ds → IsResolved h cells ds g → design_of_gathered h cells senses clock g ≡ design_apart h cells (sense_of senses cells) clock ds g.phases
  is-made senses ds edges resolved = design-same h cells ds edges senses g.told resolved.told clock g.phases

  pub made-of : (senses : List (List (List Transitions))) (ds : List EdgeDelay) → All HasEdges ds → IsResolved h cells ds g → IsApart h cells (sense_of senses cells) clock ds (design_of_gathered h cells senses clock g)
  made-of senses ds edges resolved = record { ports = are.ports; annotates = resolved.annotates; phases = g.phases; traced = are.traced; made = is-made senses ds edges resolved }

-- its parts, one by one
same-design : (ps qs ns ms : List (List ℕ)) (es fs : List Element) (as' bs : List TimingArc) (cs ds : List Bound) → ps ≡ qs → es ≡ fs → ns ≡ ms → as' ≡ bs → cs ≡ ds → design_of ps es ns as' cs ≡ design_of qs fs ms bs ds
same-design ps qs ns ms es fs as' bs cs ds a b c d e = cc

pub parts-kept : (told : Told) (senses : List (List (List Transitions))) (h : Hierarchy) (cells : CellTable) (clock : Clock) (phases : List ℕ) (ps ns : List (List ℕ)) (es : List Element) (as' : List TimingArc) (bs : List Bound) → ps ≡ map (λ p. p.name) clock.phases →
    es ≡ elements_kept told senses h cells clock phases → ns ≡ names_apart h → as' ≡ arcs_kept told senses h cells (bits_of h false clock.inputs) (bits_of h true clock.outputs) → bs ≡ clock.bounds → design_of ps es ns as' bs ≡ design_kept told senses h cells clock phases
parts-kept told senses h cells clock phases ps ns es as' bs a b c d e =
    same-design ps (map (λ p. p.name) clock.phases) ns (names_apart h) es (elements_kept told senses h cells clock phases) as' (arcs_kept told senses h cells (bits_of h false clock.inputs) (bits_of h true clock.outputs)) bs clock.bounds a b c d e

no-stop : (P : Refusal → Type 0) (s : Stop) → StopsAt (λ r. ⊥) s → StopsAt P s
no-stop P (stop.Refused r) none = absurd none
no-stop P stop.OutOfMemory none = tt

pub built : (most : Most) (h : Hierarchy) (cells : CellTable) (sense : SenseOf) (clock : Clock) (ds : List EdgeDelay) (design : Design) (r : Result Design Stop) → IsApart h cells sense clock ds design → limit_of most design ≡ None →
    MatchResult r (λ flat. flat ≡ design) (StopsAt (λ refused. ⊥)) → MatchResult r (IsEdgeDesign most h cells sense clock ds) (StopsAt (IsEdgeRefusal most h cells sense clock ds))
built most h cells sense clock ds design (Ok flat) made none same = record { whole = subst (IsApart h cells sense clock ds) (sym same) made; within = ap (limit_of most) same ∙ none }
built most h cells sense clock ds design (Err s) made none same = no-stop (IsEdgeRefusal most h cells sense clock ds) s same
