-- Where each sense has a transition to each edge, data that reaches an element reaches it at both edges.
use Rattle.std.proofs.Common.{◌≡◌, ◌≢◌, ℕ, ◌<◌, ◌≤◌, ◌+◌, ◌-◌, ◌*◌, ◌/◌, ◌%◌, ℤ, Bool, true, false, if◌then◌else◌, nat_lt, ◌||◌, List, [], ◌∷◌, ◌++◌, map, flat_map, length, get_or, All, Any, Contains, unwrap_or, ◌⊎◌, ⊎_elim, arith, refl, ap, ◌∙◌, sym, subst}
use Rattle.std.proofs.lemmas.Bool.Decides.{nat_tests}
use Rattle.std.proofs.lemmas.List.{get_or_default}
use Rattle.std.proofs.lemmas.List.Elements.{All-nil, All-cons, All-head, All-tail, All-append, All-weaker, All-contains, Contains-append_left, Contains-append_right}
use Rattle.mintc_cells.specs.declared.cell.Cell.{Cell}
use Rattle.mintc_cells.specs.declared.cell.Cell.TheVariants.{Gate, Latch, Flop, Clock}
use Rattle.mintc_clock.specs.declared.clock.Clock as clock_type
use Rattle.mintc_clock.specs.declared.clock.Listed.{Listed}
use Rattle.mintc_flatten_hierarchy.specs.declared.hierarchy.Hierarchy.{Hierarchy}
use Rattle.mintc_flatten_hierarchy.specs.declared.hierarchy.Join.{Join}
use Rattle.mintc_flatten_hierarchy.specs.Shape.{CellTable}
use Rattle.mintc_sdf_edges.specs.declared.delays.EdgeDelay.{EdgeDelay}
use Rattle.mintc_senses_expressions.specs.declared.transitions.Transitions.{Transitions}
use Rattle.mintc_senses_expressions.specs.Transitions.{has}
use Rattle.mintc_timing.specs.declared.parts.TimingArc.{TimingArc}
use Rattle.mintc_timing.specs.Design.{Timing, element_count, no_arc}
use Rattle.mintc_timing.specs.Paths.{input_of, output_of, arc_at, Leads, IsPath, HasExtremes}
use Rattle.mintc_timing.proofs.SharedMembers.{Contains-map, Contains-filter, Contains-flat_map, All-range}
use Rattle.mintc_annotate_resolve.specs.Pins.{leaf_cell, leaf_at, all_leaves, pin_bit, is_storage, input_numbers, output_numbers}
use Rattle.mintc_annotate_resolve.specs.Resolution.{arcs_from}
use Rattle.mintc_annotate.specs.Phases.{storage, phase_spots, IsPhaseOf}
use Rattle.mintc_annotate.specs.Made.{arc_of, inner_bit, no_delay, join_arc, gate_arc, gate_arcs, storage_arcs, leaf_arcs, input_arcs, output_arcs, number_in, bits_of, arcs_of}
use Rattle.mintc_edges_cover.specs.Cover.{IsFedAlike}
use Rattle.mintc_edges_cover.proofs.SharedHoldLaws.{pass_is_kept_lem}
use Rattle.mintc_edges.specs.declared.edge.Edge.{Edge}
use Rattle.mintc_edges.specs.declared.edge.Edge.TheVariants.{Rise, Fall}
use Rattle.mintc_edges.specs.declared.edge.Transition.{Transition}
use Rattle.mintc_edges.specs.Edges.{both_edges, each_edge, at_edge, edge_number, is_rise, ends_of, transition, transitions_of}
use Rattle.mintc_edges.specs.Numbers.{SenseOf, merged_range}
use Rattle.mintc_edges.specs.Apart.{bit_apart, join_arc_at, data_arc_at, output_arc_at, input_arc_at, port_arc_at, join_arcs, gate_arc_at, pin_arcs, gate_arcs_apart, data_arcs, output_pin_arcs, stored_arcs, leaf_arcs_apart, input_arcs_apart, output_arcs_apart, arcs_apart}
use Rattle.mintc_edges.specs.Laws.{AreTimings, EndsAtEachEdge, EdgePassesAreKept}
use Rattle.mintc_edges.proofs.CoverLaws.{covering, count, few, all-zip-count, apart-count, merged-count}

-- a bit of a design of n elements at an edge, in the design that has each twice
abbrev pub at_bit : ℕ → ℕ → Edge → ℕ
at_bit n k e = if nat_lt k (2 * n) then 2 * at_edge (k / 2) e + k % 2 else bit_apart n (k - 2 * n) e

pub at-inner : (n b : ℕ) (e : Edge) → at_bit n (inner_bit n b) e ≡ bit_apart n b e
at-inner n b e = grind (arith, nat_tests)

pub at-input : (n l : ℕ) (e : Edge) → l < n → at_bit n (input_of l) e ≡ input_of (at_edge l e)
at-input n l e h = grind (arith, nat_tests)

pub at-output : (n l : ℕ) (e : Edge) → l < n → at_bit n (output_of l) e ≡ output_of (at_edge l e)
at-output n l e h = grind (arith, nat_tests)

pub has_edge : (e : Edge) → Contains both_edges e
has_edge Rise = (0, omega arith, refl)
has_edge Fall = (1, omega arith, refl)

-- an arc that is at an edge what another one is
abbrev IsAt : ℕ → TimingArc → Edge → Edge → TimingArc → Type 0
IsAt n f i o a = (a.from ≡ at_bit n f.from i) × (a.to ≡ at_bit n f.to o)

-- to each edge some arc leads that is another one from some edge
abbrev LeadTo : ℕ → List TimingArc → TimingArc → Type 0
LeadTo n es f = (o : Edge) → (i : Edge) × Any (IsAt n f i o) es

-- so for each of some arcs
abbrev AllLead : ℕ → List TimingArc → List TimingArc → Type 0
AllLead n es fs = All (LeadTo n es) fs

pub any-contained : {X : Type 0} (P : X → Type 0) (x : X) (xs : List X) → Contains xs x → P x → Any P xs
any-contained P x xs at p = (at.0, x, at.1, at.2, p)

module _ (n : ℕ) where
  lead-left : (es more : List TimingArc) (f : TimingArc) → LeadTo n es f → LeadTo n (es ++ more) f
  lead-left es more f h = λ o. let w = h o in (w.0, any-contained (IsAt n f w.0 o) w.1.1 (es ++ more) (Contains-append_left es more w.1.1 (w.1.0, w.1.2, w.1.3)) w.1.4)

  lead-right : (es more : List TimingArc) (f : TimingArc) → LeadTo n more f → LeadTo n (es ++ more) f
  lead-right es more f h = λ o. let w = h o in (w.0, any-contained (IsAt n f w.0 o) w.1.1 (es ++ more) (Contains-append_right es more w.1.1 (w.1.0, w.1.2, w.1.3)) w.1.4)

  lead-append : (es more fs rest : List TimingArc) → AllLead n es fs → AllLead n more rest → AllLead n (es ++ more) (fs ++ rest)
  lead-append es more fs rest h k =
      All-append (LeadTo n (es ++ more)) fs rest
      (All-weaker (LeadTo n es) (LeadTo n (es ++ more)) (lead-left es more) fs h)
      (All-weaker (LeadTo n more) (LeadTo n (es ++ more)) (lead-right es more) rest k)

  lead-flat : {S : Type 0} (g f : S → List TimingArc) (ss : List S) → All (λ s. AllLead n (g s) (f s)) ss → AllLead n (flat_map g ss) (flat_map f ss)
  lead-flat g f [] h = All-nil (LeadTo n [])
  lead-flat g f (s ∷ ss) h = lead-append (g s) (flat_map g ss) (f s) (flat_map f ss) (All-head (λ s. AllLead n (g s) (f s)) s ss h) (lead-flat g f ss (All-tail (λ s. AllLead n (g s) (f s)) s ss h))

  lead-map : {S : Type 0} (g : S → List TimingArc) (f : S → TimingArc) (ss : List S) → ((s : S) → LeadTo n (g s) (f s)) → AllLead n (flat_map g ss) (map f ss)
  lead-map g f [] h = All-nil (LeadTo n [])
  lead-map g f (s ∷ ss) h =
      lead-append (g s) (flat_map g ss) (f s ∷ []) (map f ss) (All-cons (LeadTo n (g s)) (f s) [] (h s) (All-nil (LeadTo n (g s)))) (lead-map g f ss h)

  -- a wire keeps its edge
  wire : (g : Edge → TimingArc) (f : TimingArc) → ((e : Edge) → IsAt n f e e (g e)) → LeadTo n (each_edge g) f
  wire g f h = λ o. (o, any-contained (IsAt n f o o) (g o) (each_edge g) (Contains-map g both_edges o (has_edge o)) (h o))

  -- a sense that has a transition to each edge
  sensed : (s : Transitions) (g : Transition → TimingArc) (f : TimingArc) → ((o : Bool) → (has s true o || has s false o) ≡ true) →
      ((t : Transition) → IsAt n f t.from t.to (g t)) → LeadTo n (map g (transitions_of s)) f
  sensed s g f ends h = λ o.
      let i = from_some o in
      (i.0, any-contained (IsAt n f i.0 o) (g (transition i.0 o)) (map g (transitions_of s)) (Contains-map g (transitions_of s) (transition i.0 o) (stands i.0 o i.1)) (h (transition i.0 o)))
    where
      from_some : (o : Edge) → (i : Edge) × (has s (is_rise i) (is_rise o) ≡ true)
      from_some o = by (has s true (is_rise o)) refl (ends (is_rise o))
        where
          by : (b : Bool) → has s true (is_rise o) ≡ b → (b || has s false (is_rise o)) ≡ true → (i : Edge) × (has s (is_rise i) (is_rise o) ≡ true)
          by true e k = (Rise, e)
          by false e k = (Fall, k)

      stands : (i o : Edge) → has s (is_rise i) (is_rise o) ≡ true → Contains (transitions_of s) (transition i o)
      stands i o e =
          Contains-flat_map (λ i. map (transition i) (ends_of s i)) both_edges i (transition i o) (has_edge i)
          (Contains-map (transition i) (ends_of s i) o (Contains-filter (λ o. has s (is_rise i) (is_rise o)) both_edges o e (has_edge o)))

module _ (h : Hierarchy) (cells : CellTable) (sense : SenseOf) (ends : EndsAtEachEdge sense) (ds : List EdgeDelay) (n : ℕ) where
  joins : (js : List Join) → AllLead n (flat_map (join_arcs h cells ds n) js) (map (join_arc (merged_range h cells ds) n) js)
  joins js = lead-map n (join_arcs h cells ds n) (join_arc (merged_range h cells ds) n) js
      (λ j. wire n (join_arc_at h cells ds n j) (join_arc (merged_range h cells ds) n j) (λ e. (sym (at-inner n j.from e), sym (at-inner n j.to e))))

  gate : (l : ℕ) (cell : Cell) (default : ℤ × ℤ) → AllLead n (gate_arcs_apart h cells sense ds n l cell default) (gate_arcs h (merged_range h cells ds) n l cell default)
  gate l cell default = lead-flat n _ _ (input_numbers cell)
      (λ k d below. lead-map n (pin_arcs h cells sense ds n l default (get_or (input_numbers cell) k d)) (gate_arc h (merged_range h cells ds) n l default (get_or (input_numbers cell) k d)) (output_numbers cell)
      (λ o. sensed n (sense (leaf_at h l).cell (get_or (input_numbers cell) k d) o) (gate_arc_at h cells ds n l default (get_or (input_numbers cell) k d) o) (gate_arc h (merged_range h cells ds) n l default (get_or (input_numbers cell) k d) o)
      (ends (leaf_at h l).cell (get_or (input_numbers cell) k d) o)
      (λ t. (sym (at-inner n (pin_bit h l (get_or (input_numbers cell) k d)) t.from), sym (at-inner n (pin_bit h l o) t.to)))))

  abbrev merged-data : ℕ → ℕ → TimingArc
  merged-data l number = arc_of (inner_bit n (pin_bit h l 0)) (input_of number) no_delay

  abbrev merged-output : ℕ → ℕ → ℕ → TimingArc
  merged-output l number o = arc_of (output_of number) (inner_bit n (pin_bit h l o)) no_delay

  stored : (l number : ℕ) (cell : Cell) → number < n → AllLead n (stored_arcs h sense n l number cell) (storage_arcs h n l number cell)
  stored l number cell below =
      lead-append n (data_arcs h n l number) (flat_map (output_pin_arcs h sense n l number) (output_numbers cell)) (merged-data l number ∷ []) (map (merged-output l number) (output_numbers cell))
      (All-cons (LeadTo n (data_arcs h n l number)) (merged-data l number) []
      (wire n (data_arc_at h n l number) (merged-data l number) (λ e. (sym (at-inner n (pin_bit h l 0) e), sym (at-input n number e below)))) (All-nil (LeadTo n (data_arcs h n l number))))
      (lead-map n (output_pin_arcs h sense n l number) (merged-output l number) (output_numbers cell)
      (λ o. sensed n (sense (leaf_at h l).cell 0 o) (output_arc_at h n l number o) (merged-output l number o) (ends (leaf_at h l).cell 0 o) (λ t. (sym (at-output n number t.from below), sym (at-inner n (pin_bit h l o) t.to)))))

  leaf : (l : ℕ) (cell : Cell) → (is_storage cell ≡ true → number_in h cells l < n) → AllLead n (leaf_arcs_apart h cells sense ds n l cell) (leaf_arcs h cells (merged_range h cells ds) n l cell)
  leaf l (Gate inputs outputs min max) enough = gate l (Gate inputs outputs min max) (min, max)
  leaf l (Clock input output invert ignored) enough = All-nil (LeadTo n [])
  leaf l (Latch pin_d pin_g high outputs ignored setup hold has_hold dq_min dq_max cq_min cq_max has_cq width) enough =
      stored l (number_in h cells l) (Latch pin_d pin_g high outputs ignored setup hold has_hold dq_min dq_max cq_min cq_max has_cq width) (enough refl)
  leaf l (Flop pin_d pin_clock rising outputs ignored setup hold has_hold cq_min cq_max width) enough =
      stored l (number_in h cells l) (Flop pin_d pin_clock rising outputs ignored setup hold has_hold cq_min cq_max width) (enough refl)

  abbrev merged-input : ℕ → Listed × ℕ → TimingArc
  merged-input k x = arc_of (output_of k) (inner_bit n x.1) no_delay

  abbrev merged-port : ℕ → Listed × ℕ → TimingArc
  merged-port k x = arc_of (inner_bit n x.1) (input_of k) (unwrap_or (merged_range h cells ds (arcs_from x.1)) no_delay)

  inputs : (k : ℕ) (xs : List (Listed × ℕ)) → k + length xs ≤ n → AllLead n (input_arcs_apart n k xs) (input_arcs n k xs)
  inputs k [] enough = All-nil (LeadTo n [])
  inputs k (x ∷ xs) enough =
      lead-append n (each_edge (input_arc_at n k x)) (input_arcs_apart n (k + 1) xs) (merged-input k x ∷ []) (input_arcs n (k + 1) xs)
      (All-cons (LeadTo n (each_edge (input_arc_at n k x))) (merged-input k x) []
      (wire n (input_arc_at n k x) (merged-input k x) (λ e. (sym (at-output n k e (omega (arith, enough))), sym (at-inner n x.1 e)))) (All-nil (LeadTo n (each_edge (input_arc_at n k x)))))
      (inputs (k + 1) xs (omega (arith, enough)))

  outputs : (k : ℕ) (xs : List (Listed × ℕ)) → k + length xs ≤ n → AllLead n (output_arcs_apart h cells ds n k xs) (output_arcs (merged_range h cells ds) n k xs)
  outputs k [] enough = All-nil (LeadTo n [])
  outputs k (x ∷ xs) enough =
      lead-append n (each_edge (port_arc_at h cells ds n k x)) (output_arcs_apart h cells ds n (k + 1) xs) (merged-port k x ∷ []) (output_arcs (merged_range h cells ds) n (k + 1) xs)
      (All-cons (LeadTo n (each_edge (port_arc_at h cells ds n k x))) (merged-port k x) []
      (wire n (port_arc_at h cells ds n k x) (merged-port k x)
      (λ e. (sym (at-inner n x.1 e), sym (at-input n k e (omega (arith, enough)))))) (All-nil (LeadTo n (each_edge (port_arc_at h cells ds n k x)))))
      (outputs (k + 1) xs (omega (arith, enough)))

-- Arcs that lead from bit to bit are, at each edge of the last, arcs that lead there from some edge of the first.
module _ (n : ℕ) (es fs : List TimingArc) (all : AllLead n es fs) where
  abbrev Lifted : ℕ → List ℕ → ℕ → Edge → Type 0
  Lifted a path b o = (i : Edge) × (own : List ℕ) × Leads es (at_bit n a i) own (at_bit n b o) × (path ≢ [] → own ≢ [])

  lifted : (path : List ℕ) (a b : ℕ) (o : Edge) → Leads fs a path b → Lifted a path b o
  lifted [] a b o h = (o, [], ap (λ v. at_bit n v o) h, λ e. e)
  lifted (k ∷ path) a b o h =
      let rest = lifted path (arc_at fs k).to b o h.2 in
      let arc = all k no_arc h.0 rest.0 in
      let is : arc_at es arc.1.0 ≡ arc.1.1 = get_or_default es arc.1.0 no_arc arc.1.1 arc.1.2 ∙ arc.1.3 in
      let from : (arc_at es arc.1.0).from ≡ at_bit n a arc.0 = ap (λ (x : TimingArc). x.from) is ∙ arc.1.4.0 ∙ ap (λ v. at_bit n v arc.0) h.1 in
      let to : (arc_at es arc.1.0).to ≡ at_bit n (arc_at fs k).to rest.0 = ap (λ (x : TimingArc). x.to) is ∙ arc.1.4.1 in
      (arc.0, arc.1.0 ∷ rest.1, (arc.1.2, from, subst (λ v. Leads es v rest.1 (at_bit n b o)) (sym to) rest.2), λ some e. cc)

pub edge-small : (e : Edge) → edge_number e ≤ 1
edge-small Rise = omega arith
edge-small Fall = omega arith

-- the edge of an element by its number
edge_of : (m : ℕ) → (e : Edge) × (at_edge (m / 2) e ≡ m)
edge_of m = ⊎_elim (λ even. (Rise, omega (arith, even))) (λ odd. (Fall, omega (arith, odd))) (halves m)
  where
    halves : (m : ℕ) → (m % 2 ≡ 0) ⊎ (m % 2 ≡ 1)
    halves m = grind arith

module _ (h : Hierarchy) (cells : CellTable) (sense : SenseOf) (clock : clock_type.Clock) (ds : List EdgeDelay) (merged t : Timing)
    (ts : AreTimings h cells sense clock ds merged t) (ends : EndsAtEachEdge sense) where
  abbrev elements : ℕ
  elements = count h cells sense clock ds ts.both.phases (all-zip-count (IsPhaseOf h cells (phase_spots h clock)) (storage h cells) ts.both.phases ts.both.traced)

  abbrev same : length ts.both.phases ≡ length (storage h cells)
  same = all-zip-count (IsPhaseOf h cells (phase_spots h clock)) (storage h cells) ts.both.phases ts.both.traced

  abbrev leaf-arcs : ℕ → List TimingArc
  leaf-arcs l = leaf_arcs_apart h cells sense ds elements l (leaf_cell h cells l)

  abbrev merged-arcs : ℕ → List TimingArc
  merged-arcs l = leaf_arcs h cells (merged_range h cells ds) elements l (leaf_cell h cells l)

  all-leaves-lead : AllLead elements (flat_map leaf-arcs (all_leaves h)) (flat_map merged-arcs (all_leaves h))
  all-leaves-lead = lead-flat elements leaf-arcs merged-arcs (all_leaves h)
      (All-range (λ l. AllLead elements (leaf-arcs l) (merged-arcs l)) 0 (length h.leaves)
      (λ l low high. leaf h cells sense ends ds elements l (leaf_cell h cells l) (few h cells sense clock ds ts.both.phases same l (omega (arith, high)))))

  abbrev ins : List (Listed × ℕ)
  ins = bits_of h false clock.inputs

  abbrev outs : List (Listed × ℕ)
  outs = bits_of h true clock.outputs

  all-lead : AllLead elements (arcs_apart h cells sense clock ds) (arcs_of h cells clock (merged_range h cells ds))
  all-lead =
      lead-append elements _ _ _ _
      (lead-append elements _ _ _ _
      (lead-append elements _ _ _ _ (joins h cells sense ends ds elements h.joins) all-leaves-lead)
      (inputs h cells sense ends ds elements (length (storage h cells)) ins (omega arith)))
      (outputs h cells sense ends ds elements (length (storage h cells) + length ins) outs (omega arith))

  leads-apart : AllLead elements t.flat.arcs merged.flat.arcs
  leads-apart = rw (ts.both.is_apart, ts.both.is_merged) all-lead

  counts : element_count t.flat ≡ 2 * elements
  counts = rw ts.both.is_apart (apart-count h cells sense clock ds ts.both.phases same)

  merged_counts : element_count merged.flat ≡ elements
  merged_counts = rw ts.both.is_merged (merged-count h cells sense clock ds ts.both.phases same)

  fed : IsFedAlike (λ m. m / 2) merged t
  fed m below w =
      let ex : HasExtremes merged.flat w.1 = All-contains (HasExtremes merged.flat) merged.pairs w.1 ts.wider.each (w.0, w.2, w.3) in
      let path = ex.greatest.attained in
      let e = edge_of m in
      let up = lifted elements t.flat.arcs merged.flat.arcs leads-apart path.0 (output_of w.1.from) (input_of w.1.to) e.0 path.1.1 in
      let small : m / 2 < elements = omega (arith, counts, below) in
      let first : at_bit elements (output_of w.1.from) up.0 ≡ output_of (at_edge w.1.from up.0) = at-output elements w.1.from up.0 (omega (arith, merged_counts, ex.from)) in
      let last : at_bit elements (input_of w.1.to) e.0 ≡ input_of m = ap (λ v. at_bit elements (input_of v) e.0) w.4 ∙ at-input elements (m / 2) e.0 small ∙ ap input_of e.1 in
      let is_path : IsPath t.flat.arcs (at_edge w.1.from up.0) up.1 (input_of m) = (up.3 path.1.0, rw (first, last) at up.2) in
      let pair = ts.pairs.whole (at_edge w.1.from up.0) m up.1 (let one = edge-small up.0 in omega (arith, counts, merged_counts, ex.from, one)) below is_path in
      (pair.1.0, pair.0, pair.1.1, pair.1.2, pair.3)

pub edge_passes_are_kept_lem : EdgePassesAreKept
edge_passes_are_kept_lem h cells sense clock ds merged t ts ends limits kept s pass =
    pass_is_kept_lem merged t (covering h cells sense clock ds merged.flat t.flat ts.both) limits ts.wider kept (fed h cells sense clock ds merged t ts ends) s pass
