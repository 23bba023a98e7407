-- The design that keeps edges apart: each element and each inner bit of the merged design stands in it twice, once for
-- each edge.
use Rattle.std.specs.Prelude.{◌≡◌, ℕ, ◌+◌, ◌*◌, ℤ, pos, ◌-ℤ◌, true, false, List, [], ◌∷◌, ◌++◌, map, length}
use Rattle.std.specs.Prelude.{flat_map, zip, Some, None, unwrap_or}
use Rattle.std.specs.Int.{int_max}
use Rattle.mintc_text.specs.declared.limits.Most.{Most}
use Rattle.mintc_text.specs.declared.refusals.Refusal.{Refusal}
use Rattle.mintc_text.specs.declared.refusals.Refusal.TheVariants as refusal
use Rattle.mintc_cells.specs.declared.cell.Cell.{Cell}
use Rattle.mintc_cells.specs.declared.cell.Cell.TheVariants.{Gate, Clock}
use Rattle.mintc_flatten_hierarchy.specs.declared.hierarchy.Hierarchy.{Hierarchy}
use Rattle.mintc_flatten_hierarchy.specs.declared.hierarchy.Join.{Join}
use Rattle.mintc_flatten_hierarchy.specs.Shape.{CellTable}
use Rattle.mintc_clock.specs.declared.clock.Clock as clock_type
use Rattle.mintc_clock.specs.declared.clock.Listed.{Listed}
use Rattle.mintc_sdf_edges.specs.declared.delays.EdgeDelay.{EdgeDelay}
use Rattle.mintc_timing.specs.declared.parts.Element.{Element}
use Rattle.mintc_timing.specs.declared.parts.TimingArc.{TimingArc}
use Rattle.mintc_timing.specs.Design.{Design}
use Rattle.mintc_timing.specs.Limits.{limit_of}
use Rattle.mintc_timing.specs.Paths.{input_of, output_of}
use Rattle.mintc_annotate_resolve.specs.Pins.{leaf_at, leaf_cell, leaf_path, dotted, all_leaves, all_names, pin_bit}
use Rattle.mintc_annotate_resolve.specs.Pins.{input_numbers, output_numbers}
use Rattle.mintc_annotate_resolve.specs.Resolution.{path_on, join_into, arcs_from, first_refusal}
use Rattle.mintc_annotate.specs.ClockPorts.{has_ports, first_false, IsPortRefusal}
use Rattle.mintc_annotate.specs.Phases.{storage, phase_spots, AreTraced, IsFirstUntraced}
use Rattle.mintc_annotate.specs.Made.{element_of, port_element, bits_of, number_in, arc_of, inner_bit, no_delay}
use Rattle.mintc_edges.specs.declared.edge.Edge.{Edge}
use Rattle.mintc_edges.specs.declared.edge.Transition.{Transition}
use Rattle.mintc_edges.specs.Edges.{each_edge, at_edge, edge_name, transitions_of}
use Rattle.mintc_edges.specs.Numbers.{SenseOf, without_edges, merged_range, wire_range, gate_range, element_range}

-- ---- elements

-- an element under its name at an edge
abbrev pub named_at : Edge → Element → Element
named_at e element = record element { name = edge_name element.name e }

-- No schedule is lost: a latch that opens late at an edge, its delay from the enable above that from its data, opens no
-- later than the merged one does. Its delay from data is as great as that takes.
abbrev pub no_later_than : Element → Element → Element
no_later_than merged element = record element {
  dq_max = int_max element.dq_max (element.cq_max -ℤ int_max (pos 0) (merged.cq_max -ℤ merged.dq_max));
}

-- the merged element of leaf l, whose phase is this
abbrev pub merged_element : Hierarchy → CellTable → List EdgeDelay → ℕ → ℕ → Element
merged_element h cells ds l phase = element_of (merged_range h cells ds) (dotted (leaf_path h l)) l phase
    (leaf_cell h cells l)

-- the element of leaf l for data that comes at an edge
abbrev pub stored_element : Hierarchy → CellTable → SenseOf → List EdgeDelay → ℕ → ℕ → Edge → Element
stored_element h cells sense ds l phase e =
    named_at e (no_later_than (merged_element h cells ds l phase)
    (element_of (element_range h cells sense ds e) (dotted (leaf_path h l)) l phase (leaf_cell h cells l)))

-- the two elements of a bit of a listed port
abbrev pub port_elements : Hierarchy → Listed × ℕ → List Element
port_elements h x = each_edge (λ e. named_at e (port_element (all_names h) x))

-- all elements: two for each latch or flop, two for each bit of a listed input, two for each of a listed output
abbrev pub elements_apart : Hierarchy → CellTable → SenseOf → clock_type.Clock → List EdgeDelay → List ℕ → List Element
elements_apart h cells sense clock ds phases =
    flat_map (λ x. each_edge (stored_element h cells sense ds x.0 x.1)) (zip (storage h cells) phases)
    ++ flat_map (port_elements h) (bits_of h false clock.inputs)
    ++ flat_map (port_elements h) (bits_of h true clock.outputs)

-- ---- arcs, where n elements stand twice

-- inner bit b at an edge, as a bit of the design
abbrev pub bit_apart : ℕ → ℕ → Edge → ℕ
bit_apart n b e = inner_bit (2 * n) (at_edge b e)

-- the arc of a join at an edge
abbrev pub join_arc_at : Hierarchy → CellTable → List EdgeDelay → ℕ → Join → Edge → TimingArc
join_arc_at h cells ds n j e = arc_of (bit_apart n j.from e) (bit_apart n j.to e)
    (unwrap_or (wire_range h cells ds e (join_into j.to)) no_delay)

-- the two arcs of a join
abbrev pub join_arcs : Hierarchy → CellTable → List EdgeDelay → ℕ → Join → List TimingArc
join_arcs h cells ds n j = each_edge (join_arc_at h cells ds n j)

-- the arc from pin i to pin o of leaf l at a transition
abbrev pub gate_arc_at : Hierarchy → CellTable → List EdgeDelay → ℕ → ℕ → ℤ × ℤ → ℕ → ℕ → Transition → TimingArc
gate_arc_at h cells ds n l default i o t =
    arc_of (bit_apart n (pin_bit h l i) t.from) (bit_apart n (pin_bit h l o) t.to)
    (unwrap_or (gate_range h cells ds t (path_on l i o)) default)

-- the arcs from pin i to pin o of a gate, one for each transition that its sense has
abbrev pub pin_arcs : Hierarchy → CellTable → SenseOf → List EdgeDelay → ℕ → ℕ → ℤ × ℤ → ℕ → ℕ → List TimingArc
pin_arcs h cells sense ds n l default i o = map (gate_arc_at h cells ds n l default i o)
    (transitions_of (sense (leaf_at h l).cell i o))

-- the arcs of a gate: from each input in order to each output
abbrev pub gate_arcs_apart : Hierarchy → CellTable → SenseOf → List EdgeDelay → ℕ → ℕ → Cell → ℤ × ℤ → List TimingArc
gate_arcs_apart h cells sense ds n l cell default =
    flat_map (λ i. flat_map (pin_arcs h cells sense ds n l default i) (output_numbers cell)) (input_numbers cell)

-- the arc into the element of leaf l at an edge, where the merged one has this number
abbrev pub data_arc_at : Hierarchy → ℕ → ℕ → ℕ → Edge → TimingArc
data_arc_at h n l number e = arc_of (bit_apart n (pin_bit h l 0) e) (input_of (at_edge number e)) no_delay

-- the arcs into its two elements
abbrev pub data_arcs : Hierarchy → ℕ → ℕ → ℕ → List TimingArc
data_arcs h n l number = each_edge (data_arc_at h n l number)

-- the arc from an element of leaf l to its output pin o at a transition
abbrev pub output_arc_at : Hierarchy → ℕ → ℕ → ℕ → ℕ → Transition → TimingArc
output_arc_at h n l number o t = arc_of (output_of (at_edge number t.from)) (bit_apart n (pin_bit h l o) t.to) no_delay

-- the arcs from its two elements to output pin o, by the sense of its data pin
abbrev pub output_pin_arcs : Hierarchy → SenseOf → ℕ → ℕ → ℕ → ℕ → List TimingArc
output_pin_arcs h sense n l number o = map (output_arc_at h n l number o)
    (transitions_of (sense (leaf_at h l).cell 0 o))

-- the arcs of a latch or flop
abbrev pub stored_arcs : Hierarchy → SenseOf → ℕ → ℕ → ℕ → Cell → List TimingArc
stored_arcs h sense n l number cell = data_arcs h n l number
    ++ flat_map (output_pin_arcs h sense n l number) (output_numbers cell)

-- the arcs of leaf l, which is of this cell
abbrev pub leaf_arcs_apart : Hierarchy → CellTable → SenseOf → List EdgeDelay → ℕ → ℕ → Cell → List TimingArc
leaf_arcs_apart h cells sense ds n l (Gate inputs outputs min max) =
    gate_arcs_apart h cells sense ds n l (Gate inputs outputs min max) (min, max)
leaf_arcs_apart h cells sense ds n l (Clock input output invert ignored) = []
leaf_arcs_apart h cells sense ds n l cell = stored_arcs h sense n l (number_in h cells l) cell

-- the arc from the element of a bit of a listed input to that bit at an edge
abbrev pub input_arc_at : ℕ → ℕ → Listed × ℕ → Edge → TimingArc
input_arc_at n k x e = arc_of (output_of (at_edge k e)) (bit_apart n x.1 e) no_delay

-- the arcs from the elements of listed inputs to their bits; the first of these stands twice from number k on
abbrev pub input_arcs_apart : ℕ → ℕ → List (Listed × ℕ) → List TimingArc
input_arcs_apart n k [] = []
input_arcs_apart n k (x ∷ xs) = each_edge (input_arc_at n k x) ++ input_arcs_apart n (k + 1) xs

-- the arc from a bit of a listed output to its element at an edge
abbrev pub port_arc_at : Hierarchy → CellTable → List EdgeDelay → ℕ → ℕ → Listed × ℕ → Edge → TimingArc
port_arc_at h cells ds n k x e = arc_of (bit_apart n x.1 e) (input_of (at_edge k e))
    (unwrap_or (wire_range h cells ds e (arcs_from x.1)) no_delay)

-- the arcs from the bits of listed outputs to their elements
abbrev pub output_arcs_apart : Hierarchy → CellTable → List EdgeDelay → ℕ → ℕ → List (Listed × ℕ) → List TimingArc
output_arcs_apart h cells ds n k [] = []
output_arcs_apart h cells ds n k (x ∷ xs) = each_edge (port_arc_at h cells ds n k x)
    ++ output_arcs_apart h cells ds n (k + 1) xs

-- all arcs, where the listed inputs and outputs have these bits: those of the merged design in their order, each by its
-- transitions
abbrev pub arcs_over : Hierarchy → CellTable → SenseOf → List EdgeDelay → List (Listed × ℕ) → List (Listed × ℕ) →
    List TimingArc
arcs_over h cells sense ds inputs outputs =
    let stored = length (storage h cells) in
    let n = stored + length inputs + length outputs in
    flat_map (join_arcs h cells ds n) h.joins
    ++ flat_map (λ l. leaf_arcs_apart h cells sense ds n l (leaf_cell h cells l)) (all_leaves h)
    ++ input_arcs_apart n stored inputs
    ++ output_arcs_apart h cells ds n (stored + length inputs) outputs

-- all arcs of the design
abbrev pub arcs_apart : Hierarchy → CellTable → SenseOf → clock_type.Clock → List EdgeDelay → List TimingArc
arcs_apart h cells sense clock ds = arcs_over h cells sense ds (bits_of h false clock.inputs)
    (bits_of h true clock.outputs)

-- ---- the design

-- what inner bits are called
abbrev pub names_apart : Hierarchy → List (List ℕ)
names_apart h = flat_map (λ name. each_edge (edge_name name)) (all_names h)

-- the design of these delays, whose latches and flops have these phases
abbrev pub design_apart : Hierarchy → CellTable → SenseOf → clock_type.Clock → List EdgeDelay → List ℕ → Design
design_apart h cells sense clock ds phases = record {
  phases = map (λ p. p.name) clock.phases;
  elements = elements_apart h cells sense clock ds phases;
  inner = names_apart h;
  arcs = arcs_apart h cells sense clock ds;
  bounds = clock.bounds;
}

-- All ports are there, each delay annotates something that is there, and each latch and flop has its phase.
pub record IsApart (h : Hierarchy) (cells : CellTable) (sense : SenseOf) (clock : clock_type.Clock)
    (ds : List EdgeDelay) (design : Design) : Type 0 where
  pub ports : first_false (has_ports h clock) ≡ None
  pub annotates : first_refusal h cells (without_edges ds) ≡ None
  pub phases : List ℕ
  pub traced : AreTraced h cells (phase_spots h clock) phases
  pub made : design ≡ design_apart h cells sense clock ds phases

-- What `edges` gives: that design, within the limits of the run.
pub record IsEdgeDesign (most : Most) (h : Hierarchy) (cells : CellTable) (sense : SenseOf) (clock : clock_type.Clock)
    (ds : List EdgeDelay) (design : Design) : Type 0 where
  pub whole : IsApart h cells sense clock ds design
  pub within : limit_of most design ≡ None

-- What it refuses, in the order of a run.
pub data IsEdgeRefusal (most : Most) (h : Hierarchy) (cells : CellTable) (sense : SenseOf) (clock : clock_type.Clock)
    (ds : List EdgeDelay) (refused : Refusal) : Type 0 where
  no_port : IsPortRefusal (has_ports h clock) refused → IsEdgeRefusal most h cells sense clock ds refused
  annotates_nothing : first_false (has_ports h clock) ≡ None → first_refusal h cells (without_edges ds) ≡ Some refused →
      IsEdgeRefusal most h cells sense clock ds refused
  no_phase : first_false (has_ports h clock) ≡ None → first_refusal h cells (without_edges ds) ≡ None → (e : ℕ) →
      refused ≡ refusal.NoPhase e → IsFirstUntraced h cells (phase_spots h clock) e →
      IsEdgeRefusal most h cells sense clock ds refused
  too_many : (design : Design) → IsApart h cells sense clock ds design → limit_of most design ≡ Some refused →
      IsEdgeRefusal most h cells sense clock ds refused
