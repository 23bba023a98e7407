-- All parts of the design are within their limits.
use Rattle.std.proofs.Common.{◌≡◌, ◌<◌, ◌≤◌, ◌+◌, ◌*◌, ℕ, ℤ, Bool, true, false, ◌&&◌, cond, List, [], ◌∷◌, ◌++◌, map, flat_map, zip, length, get_or, find, All, Option, Some, None, option_map, unwrap_or, bytes_eq, refl, sym, ap, ◌∙◌, subst, arith, length-append}
use Rattle.std.specs.Bool.{beq}
use Rattle.std.proofs.lemmas.Bool.{and_parts}
use Rattle.std.proofs.lemmas.List.{length-map}
use Rattle.std.proofs.lemmas.List.Elements.{All-head, All-tail, All-nil, All-cons, All-append, All-map}
use Rattle.std.proofs.lemmas.Slice.Zip.{AllZip-long}
use Rattle.mintc_cells.specs.declared.cell.Cell.{Cell}
use Rattle.mintc_cells.specs.declared.cell.Cell.TheVariants.{Gate, Latch, Flop, Clock}
use Rattle.mintc_cells.specs.Entries.{AreKept}
use Rattle.mintc_cells.specs.Rules.{pins, inputs_of, outputs_of, is_cell}
use Rattle.mintc_toml.specs.Rules.{is_delay}
use Rattle.mintc_clock.specs.declared.clock.Clock as clock_type
use Rattle.mintc_clock.specs.declared.clock.Listed.{Listed}
use Rattle.mintc_clock.specs.Laws.{KeepsLimits}
use Rattle.mintc_flatten_hierarchy.specs.declared.hierarchy.Hierarchy.{Hierarchy}
use Rattle.mintc_flatten_hierarchy.specs.declared.hierarchy.Join.{Join}
use Rattle.mintc_flatten_hierarchy.specs.declared.hierarchy.TopPort.{TopPort}
use Rattle.mintc_flatten_hierarchy.specs.Shape.{CellTable, IsFlattened, IsJoin, IsPort}
use Rattle.mintc_sdf_edges.specs.declared.delays.EdgeDelay.{EdgeDelay}
use Rattle.mintc_timing.proofs.SharedMembers.{All-range}
use Rattle.mintc_timing.specs.declared.parts.Element.{Element}
use Rattle.mintc_timing.specs.declared.parts.TimingArc.{TimingArc}
use Rattle.mintc_timing.specs.Limits.{IsElement, IsArc, HasParts}
use Rattle.mintc_annotate_resolve.specs.Pins.{leaf_at, leaf_cell, leaf_path, dotted, no_leaf, all_leaves, all_names, inner_name, is_storage, pin_bit, input_count, output_count, input_numbers, output_numbers}
use Rattle.mintc_annotate_resolve.specs.Resolution.{Target, path_on, join_into, arcs_from, first_refusal}
use Rattle.mintc_annotate.specs.ClockPorts.{has_ports, first_false, listed_in}
use Rattle.mintc_annotate.specs.Made.{RangeOf, element_of, elements_of, port_element, bits_of, number_in, no_delay, design_made}
use Rattle.mintc_annotate.specs.Phases.{storage, phase_spots, AreTraced, IsPhaseOf}
use Rattle.mintc_annotate.proofs.SharedPartLaws.{rules_at, stored_rules, holds_at, parts_of}
use Rattle.mintc_edges.specs.declared.edge.Edge.{Edge}
use Rattle.mintc_edges.specs.Edges.{only, any, each_edge, edge_name, transitions_of}
use Rattle.mintc_edges.specs.Numbers.{SenseOf, without_edges, merged_range, wire_range, gate_range, element_range}
use Rattle.mintc_edges.specs.Apart.{named_at, merged_element, stored_element, port_elements, elements_apart, join_arc_at, join_arcs, gate_arc_at, pin_arcs, gate_arcs_apart, data_arc_at, data_arcs, output_arc_at, output_pin_arcs, stored_arcs, leaf_arcs_apart, input_arc_at, input_arcs_apart, port_arc_at, output_arcs_apart, arcs_apart, names_apart, design_apart}
use Rattle.mintc_edges.proofs.CoverLaws.{count, few, apart-count}
use Rattle.mintc_annotate.proofs.SharedElementLimits.{IsFit}
use Rattle.mintc_edges.proofs.FitLaws.{AreSound, sound-delays, at-fit, element-fit}
use Rattle.mintc_edges.proofs.LimitLaws.{twice-long}
use Rattle.mintc_edges.proofs.OverLaws.{all-edges, all-map}
use Rattle.mintc_annotate.proofs.SharedElementLimits.{delay_is, order_is, AreDelays, or_in, KeepsHold, storage_in}
use Rattle.mintc_annotate.proofs.SharedArcLimits.{none_delays}
use Rattle.mintc_edges.proofs.PartLaws.{edge-element, inner-apart, data-apart, output-apart}
use Rattle.mintc_edges.proofs.TwiceLaws.{Twice, twice-append, twice-each}

flat-all : {A S : Type 0} (P : A → Type 0) (f : S → List A) (xs : List S) → All (λ x. All P (f x)) xs → All P (flat_map f xs)
flat-all P f [] all = All-nil P
flat-all P f (x ∷ xs) all = All-append P (f x) (flat_map f xs) (All-head (λ y. All P (f y)) x xs all) (flat-all P f xs (All-tail (λ y. All P (f y)) x xs all))

-- what holds of each item of a list holds of both that stand for it
all-twice : {X : Type 0} (P : X → Type 0) (xs as' : List X) → Twice (λ x a. P x → P a) xs as' → All P xs → All P as'
all-twice P [] [] h all = All-nil P
all-twice P [] (a ∷ as') h all = absurd h
all-twice P (x ∷ xs) [] h all = absurd h
all-twice P (x ∷ xs) (a ∷ []) h all = absurd h
all-twice P (x ∷ xs) (a ∷ b ∷ as') h all =
    let here = All-head P x xs all in All-cons P a (b ∷ as') (h.0 here) (All-cons P b as' (h.1 here) (all-twice P xs as' h.2 (All-tail P x xs all)))

pins-count : (cell : Cell) → input_count cell + output_count cell ≡ length (pins cell)
pins-count cell = sym (length-append (inputs_of cell) (outputs_of cell))

gate-delays : (inputs outputs : List (List ℕ)) (least most : ℤ) → is_cell (Gate inputs outputs least most) ≡ true → AreDelays (least, most)
gate-delays inputs outputs least most rules =
    let parts = and_parts _ _ rules in
    let limits = and_parts (is_delay least) (is_delay most) (and_parts _ _ parts.0).1 in
    (delay_is least limits.0, delay_is most limits.1, order_is least most parts.1)

-- a number within a whole that is told in parts
bit-in : (first i k o pins m : ℕ) → first + pins ≤ m → k + o ≡ pins → i < k + o → first + i < m
bit-in first i k o pins m within count below = omega (arith, within, count, below)

module _ (h : Hierarchy) (cells : CellTable) (sense : SenseOf) (ds : List EdgeDelay) (sound : AreSound ds) (n : ℕ) where
  abbrev m : ℕ
  m = length h.inner

  abbrev Fits : TimingArc → Type 0
  Fits = IsArc (2 * n) (2 * m)

  wire-delays : (e : Edge) (t : Target) → ((r : ℤ × ℤ) → wire_range h cells ds e t ≡ Some r → AreDelays r) → AreDelays (unwrap_or (wire_range h cells ds e t) no_delay)
  wire-delays e t fit = or_in (wire_range h cells ds e t) no_delay fit none_delays

  joins-fit : (js : List Join) → All (IsJoin h) js → All Fits (flat_map (join_arcs h cells ds n) js)
  joins-fit js all =
      flat-all Fits (join_arcs h cells ds n) js
      (λ k d below.
      let j = get_or js k d in
      let ends = all k d below in
      all-edges Fits (join_arc_at h cells ds n j)
      (λ e. inner-apart n m j.from j.to e e (unwrap_or (wire_range h cells ds e (join_into j.to)) no_delay) ends.0 ends.1
      (wire-delays e (join_into j.to) (λ q is. let r = at-fit h cells ds any (only e) (join_into j.to) sound q is in (r.low, r.high, r.ordered)))))

  gate-fit : (l : ℕ) (cell : Cell) (default : ℤ × ℤ) → (leaf_at h l).first_pin + length (pins cell) ≤ m → AreDelays default → All Fits (gate_arcs_apart h cells sense ds n l cell default)
  gate-fit l cell default within delays =
      flat-all Fits (λ i. flat_map (pin_arcs h cells sense ds n l default i) (output_numbers cell)) (input_numbers cell)
      (All-range (λ i. All Fits (flat_map (pin_arcs h cells sense ds n l default i) (output_numbers cell))) 0 (input_count cell)
      (λ i first less.
      flat-all Fits (pin_arcs h cells sense ds n l default i) (output_numbers cell)
      (All-range (λ o. All Fits (pin_arcs h cells sense ds n l default i o)) (input_count cell) (output_count cell)
      (λ o low high.
      all-map Fits (gate_arc_at h cells ds n l default i o)
      (λ t. inner-apart n m (pin_bit h l i) (pin_bit h l o) t.from t.to (unwrap_or (gate_range h cells ds t (path_on l i o)) default)
      (bit-in (leaf_at h l).first_pin i (input_count cell) (output_count cell) (length (pins cell)) m within (pins-count cell) (omega (arith, less)))
      (bit-in (leaf_at h l).first_pin o (input_count cell) (output_count cell) (length (pins cell)) m within (pins-count cell) high)
      (or_in (gate_range h cells ds t (path_on l i o)) default (λ q is. let r = at-fit h cells ds (only t.from) (only t.to) (path_on l i o) sound q is in (r.low, r.high, r.ordered)) delays))
      (transitions_of (sense (leaf_at h l).cell i o))))))

  stored-fit : (l number : ℕ) (cell : Cell) → (leaf_at h l).first_pin + length (pins cell) ≤ m → 1 ≤ input_count cell → number < n → All Fits (stored_arcs h sense n l number cell)
  stored-fit l number cell within some less =
      All-append Fits (data_arcs h n l number) (flat_map (output_pin_arcs h sense n l number) (output_numbers cell))
      (all-edges Fits (data_arc_at h n l number)
      (λ e. data-apart n m (pin_bit h l 0) number e e no_delay (bit-in (leaf_at h l).first_pin 0 (input_count cell) (output_count cell) (length (pins cell)) m within (pins-count cell) (omega (arith, some))) less none_delays))
      (flat-all Fits (output_pin_arcs h sense n l number) (output_numbers cell)
      (All-range (λ o. All Fits (output_pin_arcs h sense n l number o)) (input_count cell) (output_count cell)
      (λ o low high.
      all-map Fits (output_arc_at h n l number o)
      (λ t. output-apart n m (pin_bit h l o) number t.from t.to no_delay (bit-in (leaf_at h l).first_pin o (input_count cell) (output_count cell) (length (pins cell)) m within (pins-count cell) high) less none_delays)
      (transitions_of (sense (leaf_at h l).cell 0 o)))))

  leaf-fit : (l : ℕ) (cell : Cell) → (leaf_at h l).first_pin + length (pins cell) ≤ m → is_cell cell ≡ true → (is_storage cell ≡ true → number_in h cells l < n) → All Fits (leaf_arcs_apart h cells sense ds n l cell)
  leaf-fit l (Gate a b c d) within rules less = gate-fit l (Gate a b c d) (c, d) within (gate-delays a b c d rules)
  leaf-fit l (Clock a b c d) within rules less = All-nil Fits
  leaf-fit l (Latch a b c d ignored e f g i j k o p q) within rules less = stored-fit l (number_in h cells l) (Latch a b c d ignored e f g i j k o p q) within (omega arith) (less refl)
  leaf-fit l (Flop a b c d ignored e f g i j k) within rules less = stored-fit l (number_in h cells l) (Flop a b c d ignored e f g i j k) within (omega arith) (less refl)

  inputs-fit : (k : ℕ) (xs : List (Listed × ℕ)) → k + length xs ≤ n → All (λ (x : Listed × ℕ). x.1 < m) xs → All Fits (input_arcs_apart n k xs)
  inputs-fit k [] enough within = All-nil Fits
  inputs-fit k (x ∷ xs) enough within =
      All-append Fits (each_edge (input_arc_at n k x)) (input_arcs_apart n (k + 1) xs)
      (all-edges Fits (input_arc_at n k x) (λ e. output-apart n m x.1 k e e no_delay (All-head (λ (x : Listed × ℕ). x.1 < m) x xs within) (omega (arith, enough)) none_delays))
      (inputs-fit (k + 1) xs (omega (arith, enough)) (All-tail (λ (x : Listed × ℕ). x.1 < m) x xs within))

  outputs-fit : (k : ℕ) (xs : List (Listed × ℕ)) → k + length xs ≤ n → All (λ (x : Listed × ℕ). x.1 < m) xs → All Fits (output_arcs_apart h cells ds n k xs)
  outputs-fit k [] enough within = All-nil Fits
  outputs-fit k (x ∷ xs) enough within =
      All-append Fits (each_edge (port_arc_at h cells ds n k x)) (output_arcs_apart h cells ds n (k + 1) xs)
      (all-edges Fits (port_arc_at h cells ds n k x)
      (λ e. data-apart n m x.1 k e e (unwrap_or (wire_range h cells ds e (arcs_from x.1)) no_delay) (All-head (λ (x : Listed × ℕ). x.1 < m) x xs within) (omega (arith, enough))
      (wire-delays e (arcs_from x.1) (λ q is. let r = at-fit h cells ds any (only e) (arcs_from x.1) sound q is in (r.low, r.high, r.ordered)))))
      (outputs-fit (k + 1) xs (omega (arith, enough)) (All-tail (λ (x : Listed × ℕ). x.1 < m) x xs within))

-- ---- the bits of listed ports are inner bits
found-at : {A : Type 0} (P : A → Type 0) (b : Bool) (y x : A) (o : Option A) → P y → (o ≡ Some x → P x) → cond b (Some y) o ≡ Some x → P x
found-at P true y x o here more e = let same : y ≡ x = cc in subst P same here
found-at P false y x o here more e = more e

found-of : {A : Type 0} (P : A → Type 0) (test : A → Bool) (xs : List A) (x : A) → All P xs → find test xs ≡ Some x → P x
found-of P test [] x all e = absurd (cc)
found-of P test (y ∷ ys) x all e = found-at P (test y) y x (find test ys) (All-head P y ys all) (found-of P test ys x (All-tail P y ys all)) e

bits-at : (m : ℕ) (o : Option TopPort) → ((p : TopPort) → o ≡ Some p → All (λ (b : ℕ). b < m) p.bits) → All (λ (b : ℕ). b < m) (unwrap_or (option_map (λ (p : TopPort). p.bits) o) [])
bits-at m None give = All-nil (λ (b : ℕ). b < m)
bits-at m (Some p) give = give p refl

all-bits : (h : Hierarchy) (output : Bool) (xs : List Listed) → All (IsPort h) h.ports → All (λ (y : Listed × ℕ). y.1 < length h.inner) (bits_of h output xs)
all-bits h output [] ports = All-nil (λ (y : Listed × ℕ). y.1 < length h.inner)
all-bits h output (x ∷ xs) ports =
    All-append (λ (y : Listed × ℕ). y.1 < length h.inner) (map (λ b. (x, b)) (unwrap_or (listed_in h.ports output x) [])) (bits_of h output xs)
    (All-map (λ (y : Listed × ℕ). y.1 < length h.inner) (λ b. (x, b)) (unwrap_or (listed_in h.ports output x) [])
    (bits-at (length h.inner) (find (λ p. bytes_eq p.name x.port && beq p.output output) h.ports) (λ p e. (found-of (IsPort h) (λ p. bytes_eq p.name x.port && beq p.output output) h.ports p ports e).within)))
    (all-bits h output xs ports)

-- ---- elements
-- where one of a cell is within its limits, one of other numbers is
own-by : (wide narrow : RangeOf) → ((t : Target) → IsFit t (narrow t)) → (name : List ℕ) (l phase k : ℕ) (cell : Cell) → (is_storage cell ≡ true → is_cell cell ≡ true) → KeepsHold cell → IsElement k (element_of wide name l phase cell) →
    IsElement k (element_of narrow name l phase cell)
own-by wide narrow fit name l phase k (Latch a b c d e2 f g i j k2 m n o p) rules keeps is = storage_in narrow fit name l phase k (Latch a b c d e2 f g i j k2 m n o p) (rules refl) keeps refl is.phase
own-by wide narrow fit name l phase k (Flop a b c d e2 f g i j k2 m) rules keeps is = storage_in narrow fit name l phase k (Flop a b c d e2 f g i j k2 m) (rules refl) keeps refl is.phase
own-by wide narrow fit name l phase k (Gate a b c d) rules keeps is = is
own-by wide narrow fit name l phase k (Clock a b c d) rules keeps is = is

renamed-fits : (k : ℕ) (e : Edge) (x : Element) → IsElement k x → IsElement k (named_at e x)
renamed-fits k e x is = record {
  phase = is.phase;
  setup = is.setup;
  hold = is.hold;
  no_hold = is.no_hold;
  dq_min = is.dq_min;
  dq_max = is.dq_max;
  dq = is.dq;
  cq_min = is.cq_min;
  cq_max = is.cq_max;
  cq = is.cq;
  flop = is.flop;
  width = is.width;
}

module _ (h : Hierarchy) (cells : CellTable) (shape : IsFlattened cells h) (kept : AreKept cells) (sense : SenseOf) (clock : clock_type.Clock) (ds : List EdgeDelay) (sound : AreSound ds) (phases : List ℕ) where
  stored-in : (k l phase : ℕ) (e : Edge) → IsElement k (merged_element h cells ds l phase) → IsElement k (stored_element h cells sense ds l phase e)
  stored-in k l phase e is =
      edge-element k (merged_element h cells ds l phase) (element_of (element_range h cells sense ds e) (dotted (leaf_path h l)) l phase (leaf_cell h cells l)) e
      (own-by (merged_range h cells ds) (element_range h cells sense ds e) (λ t. element-fit h cells sense ds e t sound) (dotted (leaf_path h l)) l phase k (leaf_cell h cells l) (stored_rules h cells kept l) (holds_at h cells kept l) is)

  abbrev Keeps : ℕ → Element → Element → Type 0
  Keeps k x a = IsElement k x → IsElement k a

  ports-in : (k : ℕ) (xs : List (Listed × ℕ)) → Twice (Keeps k) (map (port_element (all_names h)) xs) (flat_map (port_elements h) xs)
  ports-in k xs = twice-each (Keeps k) (port_element (all_names h)) (λ x e. named_at e (port_element (all_names h) x)) (λ x e. renamed-fits k e (port_element (all_names h) x)) xs

  abbrev merged-stored : ℕ × ℕ → Element
  merged-stored x = merged_element h cells ds x.0 x.1

  abbrev apart-stored : ℕ × ℕ → Edge → Element
  apart-stored x = stored_element h cells sense ds x.0 x.1

  elements-in : (k : ℕ) → All (IsElement k) (elements_of h cells clock (merged_range h cells ds) phases) → All (IsElement k) (elements_apart h cells sense clock ds phases)
  elements-in k all =
      let stored = zip (storage h cells) phases in
      let ins = bits_of h false clock.inputs in
      let outs = bits_of h true clock.outputs in
      all-twice (IsElement k) (elements_of h cells clock (merged_range h cells ds) phases) (elements_apart h cells sense clock ds phases)
      (twice-append (Keeps k) (map merged-stored stored ++ map (port_element (all_names h)) ins) (flat_map (λ x. each_edge (apart-stored x)) stored ++ flat_map (port_elements h) ins)
      (map (port_element (all_names h)) outs) (flat_map (port_elements h) outs)
      (twice-append (Keeps k) (map merged-stored stored) (flat_map (λ x. each_edge (apart-stored x)) stored) (map (port_element (all_names h)) ins) (flat_map (port_elements h) ins)
      (twice-each (Keeps k) merged-stored apart-stored (λ x e. stored-in k x.0 x.1 e) stored) (ports-in k ins))
      (ports-in k outs)) all

  module _ (traced : AreTraced h cells (phase_spots h clock) phases) where
    abbrev same : length phases ≡ length (storage h cells)
    same = AllZip-long (IsPhaseOf h cells (phase_spots h clock)) (storage h cells) phases traced

    abbrev n : ℕ
    n = count h cells sense clock ds phases same

    arcs-in : All (IsArc (2 * n) (2 * length h.inner)) (arcs_apart h cells sense clock ds)
    arcs-in =
        let ins = bits_of h false clock.inputs in
        let outs = bits_of h true clock.outputs in
        All-append (IsArc (2 * n) (2 * length h.inner)) _ _
        (All-append (IsArc (2 * n) (2 * length h.inner)) _ _
        (All-append (IsArc (2 * n) (2 * length h.inner)) _ _ (joins-fit h cells sense ds sound n h.joins shape.each_join)
        (flat-all (IsArc (2 * n) (2 * length h.inner)) (λ l. leaf_arcs_apart h cells sense ds n l (leaf_cell h cells l)) (all_leaves h)
        (All-range (λ l. All (IsArc (2 * n) (2 * length h.inner)) (leaf_arcs_apart h cells sense ds n l (leaf_cell h cells l))) 0 (length h.leaves)
        (λ l first below.
        let less : l < length h.leaves = omega (arith, below) in
        leaf-fit h cells sense ds sound n l (leaf_cell h cells l) (shape.each_leaf l no_leaf less).within (rules_at h cells shape kept l less) (few h cells sense clock ds phases same l less)))))
        (inputs-fit h cells sense ds sound n (length (storage h cells)) ins (omega arith) (all-bits h false clock.inputs shape.each_port)))
        (outputs-fit h cells sense ds sound n (length (storage h cells) + length ins) outs (omega arith) (all-bits h true clock.outputs shape.each_port))

    -- the design has its parts in their ranges
    pub has-parts : KeepsLimits clock → first_false (has_ports h clock) ≡ None → first_refusal h cells (without_edges ds) ≡ None → HasParts (design_apart h cells sense clock ds phases)
    has-parts keeps ports annotates =
        let merged : HasParts (design_made h cells clock (without_edges ds) phases) =
        parts_of h cells clock (without_edges ds) (design_made h cells clock (without_edges ds) phases) shape kept keeps (sound-delays ds sound) (record { ports = ports; annotates = annotates; phases = phases; traced = traced; made = refl }) in
        let elements : length (elements_apart h cells sense clock ds phases) ≡ 2 * n = apart-count h cells sense clock ds phases same in
        let inner : length (names_apart h) ≡ 2 * length h.inner = twice-long edge_name (all_names h) ∙ ap (λ k. 2 * k) (length-map h.inner (inner_name h)) in
        record {
          some_phase = merged.some_phase;
          each_element = elements-in (length (map (λ p. p.name) clock.phases)) merged.each_element;
          each_arc = subst (λ (k : ℕ). All (IsArc k (length (names_apart h))) (arcs_apart h cells sense clock ds)) (sym elements)
              (subst (λ (k : ℕ). All (IsArc (2 * n) k) (arcs_apart h cells sense clock ds)) (sym inner) arcs-in);
          each_bound = merged.each_bound;
        }
