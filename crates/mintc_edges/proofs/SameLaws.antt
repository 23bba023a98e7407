-- Where each sense has a transition from each edge, and delays say the same at both, the least cycle is the merged one.
use Rattle.std.proofs.Common.{◌≡◌, ◌≢◌, ℕ, ◌<◌, ◌≤◌, ◌+◌, ◌*◌, ◌/◌, ℤ, ◌≤ℤ◌, Bool, true, false, ◌||◌, List, [], ◌∷◌, ◌++◌, map, flat_map, length, get_or, zip, All, Any, Contains, Option, unwrap_or, arith, refl, ap, ◌∙◌, sym, subst}
use Rattle.std.proofs.lemmas.Int.{ints, clamps}
use Rattle.std.proofs.lemmas.List.{get_or_default}
use Rattle.std.proofs.lemmas.List.Elements.{All-nil, All-cons, All-head, All-tail, All-append, All-weaker, All-contains, Contains-append_left, Contains-append_right}
use Rattle.mintc_cells.specs.declared.cell.Cell.{Cell}
use Rattle.mintc_cells.specs.declared.cell.Cell.TheVariants.{Gate, Latch, Flop, Clock}
use Rattle.mintc_clock.specs.declared.clock.Clock as clock_type
use Rattle.mintc_clock.specs.declared.clock.Listed.{Listed}
use Rattle.mintc_flatten_hierarchy.specs.declared.hierarchy.Hierarchy.{Hierarchy}
use Rattle.mintc_flatten_hierarchy.specs.declared.hierarchy.Join.{Join}
use Rattle.mintc_flatten_hierarchy.specs.Shape.{CellTable}
use Rattle.mintc_sdf_edges.specs.declared.delays.EdgeDelay.{EdgeDelay}
use Rattle.mintc_senses_expressions.specs.declared.transitions.Transitions.{Transitions}
use Rattle.mintc_senses_expressions.specs.Transitions.{has}
use Rattle.mintc_timing.specs.declared.parts.Element.{Element}
use Rattle.mintc_timing.specs.declared.parts.Pair.{Pair}
use Rattle.mintc_timing.specs.declared.parts.TimingArc.{TimingArc}
use Rattle.mintc_timing.specs.Design.{Timing, element_at, element_count, no_arc, no_element}
use Rattle.mintc_timing.specs.Paths.{input_of, output_of, arc_at, Leads, IsPath, HasExtremes, greatest_delay}
use Rattle.mintc_timing.proofs.SharedMembers.{Contains-map, Contains-filter, Contains-flat_map, All-range}
use Rattle.mintc_annotate_resolve.specs.Pins.{leaf_cell, leaf_at, leaf_path, dotted, all_leaves, all_names, pin_bit, is_storage, input_numbers, output_numbers}
use Rattle.mintc_annotate_resolve.specs.Resolution.{Target, path_on, join_into, arcs_from, dq_of, cq_of, setup_of, hold_of, width_of}
use Rattle.mintc_annotate.specs.Phases.{storage, phase_spots, IsPhaseOf}
use Rattle.mintc_annotate.specs.Made.{RangeOf, arc_of, inner_bit, no_delay, join_arc, gate_arc, gate_arcs, storage_arcs, leaf_arcs, input_arcs, output_arcs, number_in, bits_of, arcs_of, elements_of, element_of, port_element}
use Rattle.mintc_edges.specs.declared.edge.Edge.{Edge}
use Rattle.mintc_edges.specs.declared.edge.Edge.TheVariants.{Rise, Fall}
use Rattle.mintc_edges.specs.declared.edge.Transition.{Transition}
use Rattle.mintc_edges.specs.Edges.{both_edges, each_edge, at_edge, is_rise, ends_of, transition, transitions_of}
use Rattle.mintc_edges.specs.Numbers.{SenseOf, merged_range, wire_range, gate_range, element_range}
use Rattle.mintc_edges.specs.Apart.{join_arc_at, data_arc_at, output_arc_at, input_arc_at, port_arc_at, join_arcs, gate_arc_at, pin_arcs, gate_arcs_apart, data_arcs, output_pin_arcs, stored_arcs, leaf_arcs_apart, input_arcs_apart, output_arcs_apart, arcs_apart, elements_apart, merged_element, stored_element, port_elements, named_at, no_later_than}
use Rattle.mintc_edges.specs.Laws.{AreTimings, AreAlike, StartsAtEachEdge, NothingElseChanges}
use Rattle.mintc_edges.proofs.CoverLaws.{count, few, all-zip-count, apart-count, merged-count}
use Rattle.mintc_edges.proofs.FedLaws.{at_bit, at-inner, at-input, at-output, has_edge, any-contained, edge-small}
use Rattle.mintc_edges.proofs.FollowLaws.{IsAlike, IsPairAt, IsFollowed, right_is_followed}
use Rattle.mintc_edges.proofs.KeptLaws.{edge_schedules_are_kept_lem}
use Rattle.mintc_edges.proofs.TwiceLaws.{Twice, twice-append, twice-each, twice-at}

-- ---- arcs

-- an arc that is at an edge what another one is, and as late
abbrev IsAsLate : ℕ → TimingArc → Edge → Edge → TimingArc → Type 0
IsAsLate n f i o a = (a.from ≡ at_bit n f.from i) × (a.to ≡ at_bit n f.to o) × (f.max ≤ℤ a.max)

-- from each edge some arc leads that is another one to some edge
abbrev LeadFrom : ℕ → List TimingArc → TimingArc → Type 0
LeadFrom n es f = (i : Edge) → (o : Edge) × Any (IsAsLate n f i o) es

-- so for each of some arcs
abbrev AllFrom : ℕ → List TimingArc → List TimingArc → Type 0
AllFrom n es fs = All (LeadFrom n es) fs

as-late : (w r : Option (ℤ × ℤ)) (default : ℤ × ℤ) → r ≡ w → (unwrap_or w default).1 ≤ℤ (unwrap_or r default).1
as-late w r default same = rw same (omega (arith, ints))

module _ (n : ℕ) where
  from-left : (es more : List TimingArc) (f : TimingArc) → LeadFrom n es f → LeadFrom n (es ++ more) f
  from-left es more f h = λ i. let w = h i in (w.0, any-contained (IsAsLate n f i w.0) w.1.1 (es ++ more) (Contains-append_left es more w.1.1 (w.1.0, w.1.2, w.1.3)) w.1.4)

  from-right : (es more : List TimingArc) (f : TimingArc) → LeadFrom n more f → LeadFrom n (es ++ more) f
  from-right es more f h = λ i. let w = h i in (w.0, any-contained (IsAsLate n f i w.0) w.1.1 (es ++ more) (Contains-append_right es more w.1.1 (w.1.0, w.1.2, w.1.3)) w.1.4)

  from-append : (es more fs rest : List TimingArc) → AllFrom n es fs → AllFrom n more rest → AllFrom n (es ++ more) (fs ++ rest)
  from-append es more fs rest h k =
      All-append (LeadFrom n (es ++ more)) fs rest
      (All-weaker (LeadFrom n es) (LeadFrom n (es ++ more)) (from-left es more) fs h)
      (All-weaker (LeadFrom n more) (LeadFrom n (es ++ more)) (from-right es more) rest k)

  from-flat : {S : Type 0} (g f : S → List TimingArc) (ss : List S) → All (λ s. AllFrom n (g s) (f s)) ss → AllFrom n (flat_map g ss) (flat_map f ss)
  from-flat g f [] h = All-nil (LeadFrom n [])
  from-flat g f (s ∷ ss) h = from-append (g s) (flat_map g ss) (f s) (flat_map f ss) (All-head (λ s. AllFrom n (g s) (f s)) s ss h) (from-flat g f ss (All-tail (λ s. AllFrom n (g s) (f s)) s ss h))

  from-map : {S : Type 0} (g : S → List TimingArc) (f : S → TimingArc) (ss : List S) → ((s : S) → LeadFrom n (g s) (f s)) → AllFrom n (flat_map g ss) (map f ss)
  from-map g f [] h = All-nil (LeadFrom n [])
  from-map g f (s ∷ ss) h =
      from-append (g s) (flat_map g ss) (f s ∷ []) (map f ss) (All-cons (LeadFrom n (g s)) (f s) [] (h s) (All-nil (LeadFrom n (g s)))) (from-map g f ss h)

  -- a wire keeps its edge
  wire : (g : Edge → TimingArc) (f : TimingArc) → ((e : Edge) → IsAsLate n f e e (g e)) → LeadFrom n (each_edge g) f
  wire g f h = λ i. (i, any-contained (IsAsLate n f i i) (g i) (each_edge g) (Contains-map g both_edges i (has_edge i)) (h i))

  -- a sense that has a transition from each edge
  sensed : (s : Transitions) (g : Transition → TimingArc) (f : TimingArc) → ((i : Bool) → (has s i true || has s i false) ≡ true) →
      ((t : Transition) → IsAsLate n f t.from t.to (g t)) → LeadFrom n (map g (transitions_of s)) f
  sensed s g f starts h = λ i.
      let o = to_some i in
      (o.0, any-contained (IsAsLate n f i o.0) (g (transition i o.0)) (map g (transitions_of s)) (Contains-map g (transitions_of s) (transition i o.0) (stands i o.0 o.1)) (h (transition i o.0)))
    where
      to_some : (i : Edge) → (o : Edge) × (has s (is_rise i) (is_rise o) ≡ true)
      to_some i = by (has s (is_rise i) true) refl (starts (is_rise i))
        where
          by : (b : Bool) → has s (is_rise i) true ≡ b → (b || has s (is_rise i) false) ≡ true → (o : Edge) × (has s (is_rise i) (is_rise o) ≡ true)
          by true e k = (Rise, e)
          by false e k = (Fall, k)

      stands : (i o : Edge) → has s (is_rise i) (is_rise o) ≡ true → Contains (transitions_of s) (transition i o)
      stands i o e =
          Contains-flat_map (λ i. map (transition i) (ends_of s i)) both_edges i (transition i o) (has_edge i)
          (Contains-map (transition i) (ends_of s i) o (Contains-filter (λ o. has s (is_rise i) (is_rise o)) both_edges o e (has_edge o)))

module _ (h : Hierarchy) (cells : CellTable) (sense : SenseOf) (starts : StartsAtEachEdge sense) (ds : List EdgeDelay) (alike : AreAlike h cells sense ds) (n : ℕ) where
  joins : (js : List Join) → AllFrom n (flat_map (join_arcs h cells ds n) js) (map (join_arc (merged_range h cells ds) n) js)
  joins js = from-map n (join_arcs h cells ds n) (join_arc (merged_range h cells ds) n) js
      (λ j. wire n (join_arc_at h cells ds n j) (join_arc (merged_range h cells ds) n j)
      (λ e. (sym (at-inner n j.from e), sym (at-inner n j.to e), as-late (merged_range h cells ds (join_into j.to)) (wire_range h cells ds e (join_into j.to)) no_delay (alike.wires e (join_into j.to)))))

  gate : (l : ℕ) (cell : Cell) (default : ℤ × ℤ) → AllFrom n (gate_arcs_apart h cells sense ds n l cell default) (gate_arcs h (merged_range h cells ds) n l cell default)
  gate l cell default = from-flat n _ _ (input_numbers cell)
      (λ k d below. from-map n (pin_arcs h cells sense ds n l default (get_or (input_numbers cell) k d)) (gate_arc h (merged_range h cells ds) n l default (get_or (input_numbers cell) k d)) (output_numbers cell)
      (λ o. sensed n (sense (leaf_at h l).cell (get_or (input_numbers cell) k d) o) (gate_arc_at h cells ds n l default (get_or (input_numbers cell) k d) o) (gate_arc h (merged_range h cells ds) n l default (get_or (input_numbers cell) k d) o)
      (starts (leaf_at h l).cell (get_or (input_numbers cell) k d) o)
      (λ t. (
        sym (at-inner n (pin_bit h l (get_or (input_numbers cell) k d)) t.from),
        sym (at-inner n (pin_bit h l o) t.to),
        as-late (merged_range h cells ds (path_on l (get_or (input_numbers cell) k d) o)) (gate_range h cells ds t (path_on l (get_or (input_numbers cell) k d) o)) default (alike.gates t (path_on l (get_or (input_numbers cell) k d) o)),
      ))))

  abbrev merged-data : ℕ → ℕ → TimingArc
  merged-data l number = arc_of (inner_bit n (pin_bit h l 0)) (input_of number) no_delay

  abbrev merged-output : ℕ → ℕ → ℕ → TimingArc
  merged-output l number o = arc_of (output_of number) (inner_bit n (pin_bit h l o)) no_delay

  stored : (l number : ℕ) (cell : Cell) → number < n → AllFrom n (stored_arcs h sense n l number cell) (storage_arcs h n l number cell)
  stored l number cell below =
      from-append n (data_arcs h n l number) (flat_map (output_pin_arcs h sense n l number) (output_numbers cell)) (merged-data l number ∷ []) (map (merged-output l number) (output_numbers cell))
      (All-cons (LeadFrom n (data_arcs h n l number)) (merged-data l number) []
      (wire n (data_arc_at h n l number) (merged-data l number) (λ e. (sym (at-inner n (pin_bit h l 0) e), sym (at-input n number e below), omega (arith, ints)))) (All-nil (LeadFrom n (data_arcs h n l number))))
      (from-map n (output_pin_arcs h sense n l number) (merged-output l number) (output_numbers cell)
      (λ o. sensed n (sense (leaf_at h l).cell 0 o) (output_arc_at h n l number o) (merged-output l number o) (starts (leaf_at h l).cell 0 o) (λ t. (sym (at-output n number t.from below), sym (at-inner n (pin_bit h l o) t.to), omega (arith, ints)))))

  leaf : (l : ℕ) (cell : Cell) → (is_storage cell ≡ true → number_in h cells l < n) → AllFrom n (leaf_arcs_apart h cells sense ds n l cell) (leaf_arcs h cells (merged_range h cells ds) n l cell)
  leaf l (Gate inputs outputs min max) enough = gate l (Gate inputs outputs min max) (min, max)
  leaf l (Clock input output invert ignored) enough = All-nil (LeadFrom n [])
  leaf l (Latch pin_d pin_g high outputs ignored setup hold has_hold dq_min dq_max cq_min cq_max has_cq width) enough =
      stored l (number_in h cells l) (Latch pin_d pin_g high outputs ignored setup hold has_hold dq_min dq_max cq_min cq_max has_cq width) (enough refl)
  leaf l (Flop pin_d pin_clock rising outputs ignored setup hold has_hold cq_min cq_max width) enough =
      stored l (number_in h cells l) (Flop pin_d pin_clock rising outputs ignored setup hold has_hold cq_min cq_max width) (enough refl)

  abbrev merged-input : ℕ → Listed × ℕ → TimingArc
  merged-input k x = arc_of (output_of k) (inner_bit n x.1) no_delay

  abbrev merged-port : ℕ → Listed × ℕ → TimingArc
  merged-port k x = arc_of (inner_bit n x.1) (input_of k) (unwrap_or (merged_range h cells ds (arcs_from x.1)) no_delay)

  inputs : (k : ℕ) (xs : List (Listed × ℕ)) → k + length xs ≤ n → AllFrom n (input_arcs_apart n k xs) (input_arcs n k xs)
  inputs k [] enough = All-nil (LeadFrom n [])
  inputs k (x ∷ xs) enough =
      from-append n (each_edge (input_arc_at n k x)) (input_arcs_apart n (k + 1) xs) (merged-input k x ∷ []) (input_arcs n (k + 1) xs)
      (All-cons (LeadFrom n (each_edge (input_arc_at n k x))) (merged-input k x) []
      (wire n (input_arc_at n k x) (merged-input k x) (λ e. (sym (at-output n k e (omega (arith, enough))), sym (at-inner n x.1 e), omega (arith, ints)))) (All-nil (LeadFrom n (each_edge (input_arc_at n k x)))))
      (inputs (k + 1) xs (omega (arith, enough)))

  outputs : (k : ℕ) (xs : List (Listed × ℕ)) → k + length xs ≤ n → AllFrom n (output_arcs_apart h cells ds n k xs) (output_arcs (merged_range h cells ds) n k xs)
  outputs k [] enough = All-nil (LeadFrom n [])
  outputs k (x ∷ xs) enough =
      from-append n (each_edge (port_arc_at h cells ds n k x)) (output_arcs_apart h cells ds n (k + 1) xs) (merged-port k x ∷ []) (output_arcs (merged_range h cells ds) n (k + 1) xs)
      (All-cons (LeadFrom n (each_edge (port_arc_at h cells ds n k x))) (merged-port k x) []
      (wire n (port_arc_at h cells ds n k x) (merged-port k x)
      (λ e. (sym (at-inner n x.1 e), sym (at-input n k e (omega (arith, enough))), as-late (merged_range h cells ds (arcs_from x.1)) (wire_range h cells ds e (arcs_from x.1)) no_delay (alike.wires e (arcs_from x.1))))) (All-nil (LeadFrom n (each_edge (port_arc_at h cells ds n k x)))))
      (outputs (k + 1) xs (omega (arith, enough)))

-- Arcs that lead from bit to bit are, at each edge of the first, arcs that lead to some edge of the last, as late.
module _ (n : ℕ) (es fs : List TimingArc) (all : AllFrom n es fs) where
  abbrev Lifted : ℕ → List ℕ → ℕ → Edge → Type 0
  Lifted a path b i = (o : Edge) × (own : List ℕ) × Leads es (at_bit n a i) own (at_bit n b o) × (path ≢ [] → own ≢ []) × (greatest_delay fs path ≤ℤ greatest_delay es own)

  lifted : (path : List ℕ) (a b : ℕ) (i : Edge) → Leads fs a path b → Lifted a path b i
  lifted [] a b i h = (i, [], ap (λ v. at_bit n v i) h, λ e. e, omega (arith, ints))
  lifted (k ∷ path) a b i h =
      let arc = all k no_arc h.0 i in
      let rest = lifted path (arc_at fs k).to b arc.0 h.2 in
      let is : arc_at es arc.1.0 ≡ arc.1.1 = get_or_default es arc.1.0 no_arc arc.1.1 arc.1.2 ∙ arc.1.3 in
      let from : (arc_at es arc.1.0).from ≡ at_bit n a i = ap (λ (x : TimingArc). x.from) is ∙ arc.1.4.0 ∙ ap (λ v. at_bit n v i) h.1 in
      let to : (arc_at es arc.1.0).to ≡ at_bit n (arc_at fs k).to arc.0 = ap (λ (x : TimingArc). x.to) is ∙ arc.1.4.1 in
      let late : (arc_at fs k).max ≤ℤ (arc_at es arc.1.0).max = subst (λ (x : TimingArc). (arc_at fs k).max ≤ℤ x.max) (sym is) arc.1.4.2 in
      let more = rest.4 in
      (rest.0, arc.1.0 ∷ rest.1, (arc.1.2, from, subst (λ v. Leads es v rest.1 (at_bit n b rest.0)) (sym to) rest.2), λ some e. cc, omega (arith, ints, late, more))

-- ---- elements
element-same : (r q : RangeOf) (name : List ℕ) (l phase : ℕ) (cell : Cell) → ((m : Target) → r m ≡ q m) → element_of r name l phase cell ≡ element_of q name l phase cell
element-same r q name l phase (Latch a b c d e f g i j k m n o p) same = rw (same (setup_of l), same (hold_of l), same (width_of l), same (dq_of l), same (cq_of l)) refl
element-same r q name l phase (Flop a b c d e f g i j k m) same = rw (same (setup_of l), same (hold_of l), same (width_of l), same (dq_of l)) refl
element-same r q name l phase _ same = refl

-- an element that opens no later than itself is as it was
alike-itself : (e : Element) (edge : Edge) → IsAlike e (named_at edge (no_later_than e e))
alike-itself e edge = record { phase = refl; flop = refl; setup = refl; dq_max = omega (arith, ints, clamps); cq_max = refl; width = refl }

alike-port : (e : Element) (edge : Edge) → IsAlike e (named_at edge e)
alike-port e edge = record { phase = refl; flop = refl; setup = refl; dq_max = refl; cq_max = refl; width = refl }

module _ (h : Hierarchy) (cells : CellTable) (sense : SenseOf) (ds : List EdgeDelay) (alike : AreAlike h cells sense ds) where
  stored-alike : (l phase : ℕ) (e : Edge) → IsAlike (merged_element h cells ds l phase) (stored_element h cells sense ds l phase e)
  stored-alike l phase e =
      let same = element-same (element_range h cells sense ds e) (merged_range h cells ds) (dotted (leaf_path h l)) l phase (leaf_cell h cells l) (alike.elements e) in
      subst (λ x. IsAlike (merged_element h cells ds l phase) (named_at e (no_later_than (merged_element h cells ds l phase) x))) (sym same) (alike-itself (merged_element h cells ds l phase) e)

  ports-alike : (xs : List (Listed × ℕ)) → Twice IsAlike (map (port_element (all_names h)) xs) (flat_map (port_elements h) xs)
  ports-alike xs = twice-each IsAlike (port_element (all_names h)) (λ x e. named_at e (port_element (all_names h) x)) (λ x e. alike-port (port_element (all_names h) x) e) xs

  abbrev merged-stored : ℕ × ℕ → Element
  merged-stored x = merged_element h cells ds x.0 x.1

  abbrev apart-stored : ℕ × ℕ → Edge → Element
  apart-stored x = stored_element h cells sense ds x.0 x.1

  all-alike : (clock : clock_type.Clock) (phases : List ℕ) → Twice IsAlike (elements_of h cells clock (merged_range h cells ds) phases) (elements_apart h cells sense clock ds phases)
  all-alike clock phases =
      let stored = zip (storage h cells) phases in
      let ins = bits_of h false clock.inputs in
      let outs = bits_of h true clock.outputs in
      twice-append IsAlike (map merged-stored stored ++ map (port_element (all_names h)) ins) (flat_map (λ x. each_edge (apart-stored x)) stored ++ flat_map (port_elements h) ins)
      (map (port_element (all_names h)) outs) (flat_map (port_elements h) outs)
      (twice-append IsAlike (map merged-stored stored) (flat_map (λ x. each_edge (apart-stored x)) stored) (map (port_element (all_names h)) ins) (flat_map (port_elements h) ins)
      (twice-each IsAlike merged-stored apart-stored (λ x e. stored-alike x.0 x.1 e) stored) (ports-alike ins))
      (ports-alike outs)

half : (l : ℕ) (e : Edge) → at_edge l e / 2 ≡ l
half l Rise = omega arith
half l Fall = omega arith

-- ---- the designs
module _ (h : Hierarchy) (cells : CellTable) (sense : SenseOf) (clock : clock_type.Clock) (ds : List EdgeDelay) (merged t : Timing)
    (ts : AreTimings h cells sense clock ds merged t) (starts : StartsAtEachEdge sense) (alike : AreAlike h cells sense ds) where
  abbrev elements : ℕ
  elements = count h cells sense clock ds ts.both.phases (all-zip-count (IsPhaseOf h cells (phase_spots h clock)) (storage h cells) ts.both.phases ts.both.traced)

  abbrev same : length ts.both.phases ≡ length (storage h cells)
  same = all-zip-count (IsPhaseOf h cells (phase_spots h clock)) (storage h cells) ts.both.phases ts.both.traced

  abbrev leaf-arcs : ℕ → List TimingArc
  leaf-arcs l = leaf_arcs_apart h cells sense ds elements l (leaf_cell h cells l)

  abbrev merged-arcs : ℕ → List TimingArc
  merged-arcs l = leaf_arcs h cells (merged_range h cells ds) elements l (leaf_cell h cells l)

  all-leaves-lead : AllFrom elements (flat_map leaf-arcs (all_leaves h)) (flat_map merged-arcs (all_leaves h))
  all-leaves-lead = from-flat elements leaf-arcs merged-arcs (all_leaves h)
      (All-range (λ l. AllFrom elements (leaf-arcs l) (merged-arcs l)) 0 (length h.leaves)
      (λ l low high. leaf h cells sense starts ds alike elements l (leaf_cell h cells l) (few h cells sense clock ds ts.both.phases same l (omega (arith, high)))))

  abbrev ins : List (Listed × ℕ)
  ins = bits_of h false clock.inputs

  abbrev outs : List (Listed × ℕ)
  outs = bits_of h true clock.outputs

  all-lead : AllFrom elements (arcs_apart h cells sense clock ds) (arcs_of h cells clock (merged_range h cells ds))
  all-lead =
      from-append elements _ _ _ _
      (from-append elements _ _ _ _
      (from-append elements _ _ _ _ (joins h cells sense starts ds alike elements h.joins) all-leaves-lead)
      (inputs h cells sense starts ds alike elements (length (storage h cells)) ins (omega arith)))
      (outputs h cells sense starts ds alike elements (length (storage h cells) + length ins) outs (omega arith))

  leads-apart : AllFrom elements t.flat.arcs merged.flat.arcs
  leads-apart = rw (ts.both.is_apart, ts.both.is_merged) all-lead

  counts : element_count t.flat ≡ 2 * elements
  counts = rw ts.both.is_apart (apart-count h cells sense clock ds ts.both.phases same)

  merged_counts : element_count merged.flat ≡ elements
  merged_counts = rw ts.both.is_merged (merged-count h cells sense clock ds ts.both.phases same)

  elements-alike : Twice IsAlike merged.flat.elements t.flat.elements
  elements-alike = rw (ts.both.is_apart, ts.both.is_merged) (all-alike h cells sense ds alike clock ts.both.phases)

  inside : (l : ℕ) (e : Edge) → l < element_count merged.flat → at_edge l e < element_count t.flat
  inside l e below = let small = edge-small e in omega (arith, counts, merged_counts, below, small)

  pairs-begin : (p : Pair) → HasExtremes merged.flat p → (e : Edge) → (o : Edge) × Any (IsPairAt p e o) t.pairs
  pairs-begin p ex e =
      let path = ex.greatest.attained in
      let up = lifted elements t.flat.arcs merged.flat.arcs leads-apart path.0 (output_of p.from) (input_of p.to) e path.1.1 in
      let first : at_bit elements (output_of p.from) e ≡ output_of (at_edge p.from e) = at-output elements p.from e (omega (arith, merged_counts, ex.from)) in
      let last : at_bit elements (input_of p.to) up.0 ≡ input_of (at_edge p.to up.0) = at-input elements p.to up.0 (omega (arith, merged_counts, ex.to)) in
      let is_path : IsPath t.flat.arcs (at_edge p.from e) up.1 (input_of (at_edge p.to up.0)) = (up.3 path.1.0, rw (first, last) at up.2) in
      let pair = ts.pairs.whole (at_edge p.from e) (at_edge p.to up.0) up.1 (inside p.from e ex.from) (inside p.to up.0 ex.to) is_path in
      let reach : HasExtremes t.flat pair.0 = All-contains (HasExtremes t.flat) t.pairs pair.0 ts.pairs.each pair.1 in
      let bound = reach.greatest.bound up.1 (rw (pair.2, pair.3) is_path) in
      let late : p.max ≤ℤ pair.0.max = subst (λ x. x ≤ℤ pair.0.max) path.2 (omega (arith, ints, bound, up.4)) in
      (up.0, (pair.1.0, pair.0, pair.1.1, pair.1.2, (pair.2, pair.3, late)))

  followed : IsFollowed merged t
  followed = record {
    phases = rw (ts.both.is_apart, ts.both.is_merged) refl;
    bounds = rw (ts.both.is_apart, ts.both.is_merged) refl;
    there = inside;
    alike = λ l e below. subst (λ k. IsAlike (element_at merged.flat k) (element_at t.flat (at_edge l e))) (half l e) (twice-at IsAlike merged.flat.elements t.flat.elements elements-alike (at_edge l e) no_element (inside l e below));
    pairs = pairs-begin;
  }

pub nothing_else_changes_lem : NothingElseChanges
nothing_else_changes_lem h cells sense clock ds merged t ts starts alike num den first = record {
  positive = first.positive;
  attained = (let a = first.attained in let kept = edge_schedules_are_kept_lem h cells sense clock ds merged t ts a.0 a.1 a.2 in (a.0, kept.0, kept.1, a.3));
  least = λ s d right.
      let back = right_is_followed merged t (followed h cells sense clock ds merged t ts starts alike) ts.wider ts.pairs s d right in
      first.least s back.0 back.1;
}
