-- The design that a hierarchy, cells, a clock and delays make.
use Rattle.std.specs.Prelude.{◌≡◌, ℕ, ◌+◌, ◌*◌, ℤ, pos, Bool, true, false, ◌||◌, if◌then◌else◌, List, [], ◌∷◌, ◌++◌}
use Rattle.std.specs.Prelude.{map, length, slice_index_or, take, count_by, flat_map, zip, Option, Some, None, unwrap_or}
use Rattle.std.specs.Prelude.{is_some}
use Rattle.std.specs.Option.{option_or}
use Rattle.mintc_text.specs.declared.limits.Most.{Most}
use Rattle.mintc_text.specs.declared.refusals.Refusal.{Refusal}
use Rattle.mintc_text.specs.declared.refusals.Refusal.TheVariants as refusal
use Rattle.mintc_cells.specs.declared.cell.Cell.{Cell}
use Rattle.mintc_cells.specs.declared.cell.Cell.TheVariants.{Gate, Latch, Flop, Clock}
use Rattle.mintc_flatten_hierarchy.specs.declared.hierarchy.Hierarchy.{Hierarchy}
use Rattle.mintc_flatten_hierarchy.specs.declared.hierarchy.Join.{Join}
use Rattle.mintc_flatten_hierarchy.specs.declared.hierarchy.TopPort.{TopPort}
use Rattle.mintc_sdf.specs.declared.delays.Delay.{Delay}
use Rattle.mintc_clock.specs.declared.clock.Clock as clock_type
use Rattle.mintc_clock.specs.declared.clock.Listed.{Listed}
use Rattle.mintc_timing.specs.declared.parts.Element.{Element}
use Rattle.mintc_timing.specs.declared.parts.TimingArc.{TimingArc}
use Rattle.mintc_timing.specs.Design.{Design, no_element}
use Rattle.mintc_timing.specs.Limits.{limit_of}
use Rattle.mintc_timing.specs.Paths.{input_of, output_of}
use Rattle.mintc_flatten_hierarchy.specs.Shape.{CellTable}
use Rattle.mintc_annotate_resolve.specs.Pins.{leaf_at, leaf_cell, all_leaves, input_numbers, output_numbers, pin_bit}
use Rattle.mintc_annotate_resolve.specs.Pins.{leaf_path, dotted, all_names, is_storage}
use Rattle.mintc_annotate.specs.ClockPorts.{listed_in, has_ports, first_false, IsPortRefusal}
use Rattle.mintc_annotate.specs.Phases.{storage, phase_spots, AreTraced, IsFirstUntraced}
use Rattle.mintc_annotate_resolve.specs.Resolution.{Target, said, first_refusal, range_of, path_on, join_into}
use Rattle.mintc_annotate_resolve.specs.Resolution.{arcs_from, dq_of, cq_of, setup_of, hold_of, width_of}

-- what is the least and the greatest that is said of a target, if anything is
abbrev pub RangeOf : Type 0
RangeOf = Target → Option (ℤ × ℤ)

-- ---- the numbers of an element: what annotates it, else its cell's. A latch has delays from its data pin (dq) and
-- delays from its enable (cq); where only one of the two is annotated, it stands for both, unless the cell has delays
-- of its own from the enable.

-- the range that is said of it, else that of the other of the two, else the cell's own
abbrev pub first_range : Option (ℤ × ℤ) → Option (ℤ × ℤ) → ℤ × ℤ → ℤ × ℤ
first_range said other default = unwrap_or (option_or said other) default

-- the range of the other of the two, where it may stand in: the cell has no delays of its own from the enable
abbrev pub unless_own_cq : Bool → Option (ℤ × ℤ) → Option (ℤ × ℤ)
unless_own_cq has_cq other = if has_cq then None else other

-- the greatest number that annotates it, else the default
abbrev pub greatest_or : Option (ℤ × ℤ) → ℤ → ℤ
greatest_or None default = default
greatest_or (Some r) default = r.1

-- the element of a latch or flop by its numbers
abbrev pub storage_element : List ℕ → ℕ → Bool → ℤ → ℤ → Bool → ℤ × ℤ → ℤ × ℤ → ℤ → Element
storage_element name phase flop setup hold has_hold dq cq width =
    record {
      name = name;
      phase = phase;
      flop = flop;
      setup = setup;
      hold = hold;
      has_hold = has_hold;
      dq_min = dq.0;
      dq_max = dq.1;
      cq_min = cq.0;
      cq_max = cq.1;
      width = width;
    }

-- whether a cell is a latch
abbrev pub is_latch : Cell → Bool
is_latch (Latch pin_d pin_g high outputs ignored setup hold has_hold dq_min dq_max cq_min cq_max has_cq width) = true
is_latch _ = false

-- whether a cell is a flop
abbrev pub is_flop : Cell → Bool
is_flop (Flop pin_d pin_clock rising outputs ignored setup hold has_hold cq_min cq_max width) = true
is_flop _ = false

-- the element of leaf l, whose cell and phase are these
abbrev pub element_of : RangeOf → List ℕ → ℕ → ℕ → Cell → Element
element_of ranges name l phase
    (Latch pin_d pin_g high outputs ignored cell_setup cell_hold has_hold dq_min dq_max cq_min cq_max has_cq cell_width)
    =
    storage_element name phase false (greatest_or (ranges (setup_of l)) cell_setup)
    (greatest_or (ranges (hold_of l)) cell_hold) (is_some (ranges (hold_of l)) || has_hold)
    (first_range (ranges (dq_of l)) (unless_own_cq has_cq (ranges (cq_of l))) (dq_min, dq_max))
    (first_range (ranges (cq_of l)) (unless_own_cq has_cq (ranges (dq_of l))) (cq_min, cq_max))
    (greatest_or (ranges (width_of l)) cell_width)
element_of ranges name l phase
    (Flop pin_d pin_clock rising outputs ignored cell_setup cell_hold has_hold cq_min cq_max cell_width) =
    storage_element name phase true (greatest_or (ranges (setup_of l)) cell_setup)
    (greatest_or (ranges (hold_of l)) cell_hold) (is_some (ranges (hold_of l)) || has_hold)
    (unwrap_or (ranges (dq_of l)) (cq_min, cq_max)) (unwrap_or (ranges (dq_of l)) (cq_min, cq_max))
    (greatest_or (ranges (width_of l)) cell_width)
element_of ranges name l phase _ = no_element

-- the element of a bit of a listed port
abbrev pub port_element : List (List ℕ) → Listed × ℕ → Element
port_element names x =
    record {
      name = slice_index_or names x.1 [];
      phase = x.0.phase;
      flop = false;
      setup = x.0.setup;
      hold = x.0.hold;
      has_hold = x.0.has_hold;
      dq_min = x.0.min;
      dq_max = x.0.max;
      cq_min = x.0.min;
      cq_max = x.0.max;
      width = pos 0;
    }

-- the bits of listed ports, in file order and from the rightmost
abbrev pub bits_in : List TopPort → Bool → List Listed → List (Listed × ℕ)
bits_in ports output listed = flat_map (λ x. map (λ b. (x, b)) (unwrap_or (listed_in ports output x) [])) listed

-- the same of the ports of a hierarchy
abbrev pub bits_of : Hierarchy → Bool → List Listed → List (Listed × ℕ)
bits_of h output listed = bits_in h.ports output listed

-- the element of leaf l, if it is a latch or a flop
abbrev pub elements_at : Hierarchy → CellTable → RangeOf → ℕ → ℕ → List Element
elements_at h cells ranges l phase = if is_storage (leaf_cell h cells l)
    then element_of ranges (dotted (leaf_path h l)) l phase (leaf_cell h cells l) ∷ [] else []

-- ---- elements: the latches and flops, the bits of listed inputs, the bits of listed outputs

-- the elements of latches and flops, which have these phases
abbrev pub storage_elements : Hierarchy → CellTable → RangeOf → List ℕ → List Element
storage_elements h cells ranges phases = map
    (λ x. element_of ranges (dotted (leaf_path h x.0)) x.0 x.1 (leaf_cell h cells x.0)) (zip (storage h cells) phases)

-- all elements, where the listed inputs and outputs have these bits
abbrev pub elements_with : Hierarchy → CellTable → RangeOf → List ℕ → List (Listed × ℕ) → List (Listed × ℕ) →
    List Element
elements_with h cells ranges phases inputs outputs = storage_elements h cells ranges phases
    ++ map (port_element (all_names h)) inputs ++ map (port_element (all_names h)) outputs

-- all elements of a design
abbrev pub elements_of : Hierarchy → CellTable → clock_type.Clock → RangeOf → List ℕ → List Element
elements_of h cells clock ranges phases = elements_with h cells ranges phases (bits_of h false clock.inputs)
    (bits_of h true clock.outputs)

-- the element of leaf l has so many latches and flops before it
abbrev pub number_in : Hierarchy → CellTable → ℕ → ℕ
number_in h cells l = count_by (λ k. is_storage (leaf_cell h cells k)) (take l (all_leaves h))

-- ---- arcs, in a design of n elements

-- an arc by its bits and its delay
abbrev pub arc_of : ℕ → ℕ → ℤ × ℤ → TimingArc
arc_of from to delay = record { from = from; to = to; min = delay.0; max = delay.1 }

-- the delay of an arc of which nothing is said
abbrev pub no_delay : ℤ × ℤ
no_delay = (pos 0, pos 0)

-- inner bit b as a bit of the design
abbrev pub inner_bit : ℕ → ℕ → ℕ
inner_bit n b = 2 * n + b

-- the arc of a join
abbrev pub join_arc : RangeOf → ℕ → Join → TimingArc
join_arc ranges n j = arc_of (inner_bit n j.from) (inner_bit n j.to) (unwrap_or (ranges (join_into j.to)) no_delay)

-- the arc from pin i to pin o of leaf l, whose first pin is inner bit `first`
abbrev pub pin_arc : RangeOf → ℕ → ℕ → ℕ → ℤ × ℤ → ℕ → ℕ → TimingArc
pin_arc ranges n l first default i o = arc_of (inner_bit n (first + i)) (inner_bit n (first + o))
    (unwrap_or (ranges (path_on l i o)) default)

-- the arc from pin i to pin o of leaf l
abbrev pub gate_arc : Hierarchy → RangeOf → ℕ → ℕ → ℤ × ℤ → ℕ → ℕ → TimingArc
gate_arc h ranges n l default i o = pin_arc ranges n l (leaf_at h l).first_pin default i o

-- the arcs of a gate: from each input in order to each output
abbrev pub gate_arcs : Hierarchy → RangeOf → ℕ → ℕ → Cell → ℤ × ℤ → List TimingArc
gate_arcs h ranges n l cell default = flat_map (λ i. map (gate_arc h ranges n l default i) (output_numbers cell))
    (input_numbers cell)

-- the arcs of a latch or flop: from its data pin to the element's input, and from its output to each output pin
abbrev pub storage_arcs : Hierarchy → ℕ → ℕ → ℕ → Cell → List TimingArc
storage_arcs h n l e cell = arc_of (inner_bit n (pin_bit h l 0)) (input_of e) no_delay ∷
    map (λ o. arc_of (output_of e) (inner_bit n (pin_bit h l o)) no_delay) (output_numbers cell)

-- the arcs of leaf l, which is of this cell
abbrev pub leaf_arcs : Hierarchy → CellTable → RangeOf → ℕ → ℕ → Cell → List TimingArc
leaf_arcs h cells ranges n l (Gate inputs outputs min max) = gate_arcs h ranges n l (Gate inputs outputs min max)
    (min, max)
leaf_arcs h cells ranges n l (Clock input output invert ignored) = []
leaf_arcs h cells ranges n l cell = storage_arcs h n l (number_in h cells l) cell

-- the arcs between the elements of listed ports, from element e on, and their bits
abbrev pub input_arcs : ℕ → ℕ → List (Listed × ℕ) → List TimingArc
input_arcs n e [] = []
input_arcs n e (x ∷ xs) = arc_of (output_of e) (inner_bit n x.1) no_delay ∷ input_arcs n (e + 1) xs

-- the arcs from the bits of listed outputs to their elements, from element e on
abbrev pub output_arcs : RangeOf → ℕ → ℕ → List (Listed × ℕ) → List TimingArc
output_arcs ranges n e [] = []
output_arcs ranges n e (x ∷ xs) = arc_of (inner_bit n x.1) (input_of e) (unwrap_or (ranges (arcs_from x.1)) no_delay) ∷
    output_arcs ranges n (e + 1) xs

-- all arcs, where the listed inputs and outputs have these bits
abbrev pub arcs_with : Hierarchy → CellTable → RangeOf → List (Listed × ℕ) → List (Listed × ℕ) → List TimingArc
arcs_with h cells ranges inputs outputs =
    let stored = length (storage h cells) in
    let n = stored + length inputs + length outputs in
    map (join_arc ranges n) h.joins
    ++ flat_map (λ l. leaf_arcs h cells ranges n l (leaf_cell h cells l)) (all_leaves h)
    ++ input_arcs n stored inputs
    ++ output_arcs ranges n (stored + length inputs) outputs

-- all arcs of a design
abbrev pub arcs_of : Hierarchy → CellTable → clock_type.Clock → RangeOf → List TimingArc
arcs_of h cells clock ranges = arcs_with h cells ranges (bits_of h false clock.inputs) (bits_of h true clock.outputs)

-- ---- the design

-- the design, where delays have these ranges, and latches and flops these phases
abbrev pub design_with : Hierarchy → CellTable → clock_type.Clock → RangeOf → List ℕ → Design
design_with h cells clock ranges phases = record {
  phases = map (λ p. p.name) clock.phases;
  elements = elements_of h cells clock ranges phases;
  inner = all_names h;
  arcs = arcs_of h cells clock ranges;
  bounds = clock.bounds;
}

-- the design of these delays
abbrev pub design_made : Hierarchy → CellTable → clock_type.Clock → List Delay → List ℕ → Design
design_made h cells clock delays phases = design_with h cells clock (range_of (said h cells delays)) phases

-- All ports are there, each delay annotates something that is there, and each latch and flop has its phase.
pub record IsMade (h : Hierarchy) (cells : CellTable) (clock : clock_type.Clock) (delays : List Delay)
    (design : Design) : Type 0 where
  pub ports : first_false (has_ports h clock) ≡ None
  pub annotates : first_refusal h cells delays ≡ None
  pub phases : List ℕ
  pub traced : AreTraced h cells (phase_spots h clock) phases
  pub made : design ≡ design_made h cells clock delays phases

-- What `annotate` gives: that design, within the limits of the run.
pub record IsAnnotated (most : Most) (h : Hierarchy) (cells : CellTable) (clock : clock_type.Clock)
    (delays : List Delay)
    (design : Design) : Type 0 where
  pub whole : IsMade h cells clock delays design
  pub within : limit_of most design ≡ None

-- What it refuses, in the order of a run.
pub data IsAnnotateRefusal (most : Most) (h : Hierarchy) (cells : CellTable) (clock : clock_type.Clock)
    (delays : List Delay)
    (refused : Refusal) : Type 0 where
  no_port : IsPortRefusal (has_ports h clock) refused → IsAnnotateRefusal most h cells clock delays refused
  annotates_nothing : first_false (has_ports h clock) ≡ None → first_refusal h cells delays ≡ Some refused →
      IsAnnotateRefusal most h cells clock delays refused
  no_phase : first_false (has_ports h clock) ≡ None → first_refusal h cells delays ≡ None → (e : ℕ) →
      refused ≡ refusal.NoPhase e → IsFirstUntraced h cells (phase_spots h clock) e →
      IsAnnotateRefusal most h cells clock delays refused
  too_many : (design : Design) → IsMade h cells clock delays design → limit_of most design ≡ Some refused →
      IsAnnotateRefusal most h cells clock delays refused
