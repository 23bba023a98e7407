-- The arcs of the design by the table of all that delays say, with outputs counted among a cell's outputs.
use Rattle.std.specs.Prelude.{◌≤◌, ℕ, ◌+◌, ℤ, List, [], ◌∷◌, ◌++◌, map, flat_map, unwrap_or}
use Rattle.std.specs.List.{range_with_len}
use Rattle.mintc_cells.specs.declared.cell.Cell.{Cell}
use Rattle.mintc_cells.specs.declared.cell.Cell.TheVariants.{Gate, Clock}
use Rattle.mintc_clock.specs.declared.clock.Listed.{Listed}
use Rattle.mintc_flatten_hierarchy.specs.declared.hierarchy.Join.{Join}
use Rattle.mintc_senses.specs.Senses.{sense_at}
use Rattle.mintc_senses_expressions.specs.declared.transitions.Transitions.{Transitions}
use Rattle.mintc_text.specs.declared.limits.TheConstants.{MOST_ELEMENTS, MOST_INNER}
use Rattle.mintc_timing.specs.declared.parts.TimingArc.{TimingArc}
use Rattle.mintc_timing.specs.Paths.{input_of, output_of}
use Rattle.mintc_flatten_hierarchy.specs.declared.hierarchy.Hierarchy.{Hierarchy}
use Rattle.mintc_flatten_hierarchy.specs.Shape.{CellTable}
use Rattle.mintc_annotate_resolve.specs.Pins.{leaf_at, leaf_cell, input_count, output_count}
use Rattle.mintc_annotate.specs.Made.{arc_of, no_delay, number_in}
use Rattle.mintc_edges.specs.declared.edge.Edge.{Edge}
use Rattle.mintc_edges.specs.declared.edge.Transition.{Transition}
use Rattle.mintc_edges.specs.declared.arcs.LeafAt.{LeafAt}
use Rattle.mintc_edges.specs.declared.told.Told.{Told}
use Rattle.mintc_edges.specs.Edges.{each_edge, at_edge, transitions_of}
use Rattle.mintc_edges.specs.Spreads.{at_or_all, said_at}
use Rattle.mintc_edges.specs.Told.{path_told, told_at}
use Rattle.mintc_edges.specs.Apart.{bit_apart}

-- its numbers are as small as those of a design within its limits
pub record IsSmall (leaf : LeafAt) : Type 0 where
  pub elements : leaf.elements ≤ MOST_ELEMENTS
  pub pins : leaf.first + (leaf.inputs + leaf.outputs) ≤ MOST_INNER

-- a pin of a leaf at an edge, as a bit of the design
abbrev pub pin_apart : LeafAt → ℕ → Edge → ℕ
pin_apart leaf pin e = bit_apart leaf.elements (leaf.first + pin) e

-- the arc of a join at an edge
abbrev pub join_arc_kept : Told → ℕ → Join → Edge → TimingArc
join_arc_kept told n j e = arc_of (bit_apart n j.from e) (bit_apart n j.to e)
    (unwrap_or (at_or_all (told_at told.joins.items j.to) e) no_delay)

-- the arc from an input of a gate to an output at a transition
abbrev pub gate_arc_kept : Told → LeafAt → ℤ × ℤ → ℕ → ℕ → Transition → TimingArc
gate_arc_kept told gate default i k t =
    arc_of (pin_apart gate i t.from) (pin_apart gate (gate.inputs + k) t.to)
    (unwrap_or (said_at (path_told told (gate.leaf, i, gate.inputs + k)) t.from t.to) default)

-- the arcs from an input of a gate to an output
abbrev pub pin_arcs_kept : Told → List (List (List Transitions)) → LeafAt → ℤ × ℤ → ℕ → ℕ → List TimingArc
pin_arcs_kept told senses gate default i k = map (gate_arc_kept told gate default i k)
    (transitions_of (sense_at senses gate.cell i k))

-- the arcs from an input of a gate
abbrev pub row_arcs_kept : Told → List (List (List Transitions)) → LeafAt → ℤ × ℤ → ℕ → List TimingArc
row_arcs_kept told senses gate default i = flat_map (pin_arcs_kept told senses gate default i)
    (range_with_len 0 gate.outputs)

-- the arcs of a gate
abbrev pub gate_arcs_kept : Told → List (List (List Transitions)) → LeafAt → ℤ × ℤ → List TimingArc
gate_arcs_kept told senses gate default = flat_map (row_arcs_kept told senses gate default)
    (range_with_len 0 gate.inputs)

-- the arc into the element of a latch or flop at an edge, which stands twice from this number
abbrev pub data_arc_kept : LeafAt → ℕ → Edge → TimingArc
data_arc_kept stored number e = arc_of (pin_apart stored 0 e) (input_of (at_edge number e)) no_delay

-- the arc from it to an output at a transition
abbrev pub output_arc_kept : LeafAt → ℕ → ℕ → Transition → TimingArc
output_arc_kept stored number k t = arc_of (output_of (at_edge number t.from))
    (pin_apart stored (stored.inputs + k) t.to) no_delay

-- the arcs from it to an output
abbrev pub output_arcs_kept : List (List (List Transitions)) → LeafAt → ℕ → ℕ → List TimingArc
output_arcs_kept senses stored number k = map (output_arc_kept stored number k)
    (transitions_of (sense_at senses stored.cell 0 k))

-- the arcs of a latch or flop
abbrev pub stored_arcs_kept : List (List (List Transitions)) → LeafAt → ℕ → List TimingArc
stored_arcs_kept senses stored number = each_edge (data_arc_kept stored number)
    ++ flat_map (output_arcs_kept senses stored number) (range_with_len 0 stored.outputs)

-- the arcs of a leaf of a cell
abbrev pub leaf_arcs_kept : Told → List (List (List Transitions)) → LeafAt → ℕ → Cell → List TimingArc
leaf_arcs_kept told senses leaf number (Gate inputs outputs min max) = gate_arcs_kept told senses leaf (min, max)
leaf_arcs_kept told senses leaf number (Clock input output invert ignored) = []
leaf_arcs_kept told senses leaf number _ = stored_arcs_kept senses leaf number

-- the arc from a bit of a listed output into its element at an edge
abbrev pub port_arc_kept : Told → ℕ → ℕ → ℕ → Edge → TimingArc
port_arc_kept told n number bit e = arc_of (bit_apart n bit e) (input_of (at_edge number e))
    (unwrap_or (at_or_all (told_at told.ports.items bit) e) no_delay)

-- the arcs from the bits of listed outputs to their elements
abbrev pub output_arcs_of : Told → ℕ → ℕ → List (Listed × ℕ) → List TimingArc
output_arcs_of told n k [] = []
output_arcs_of told n k (x ∷ xs) = each_edge (port_arc_kept told n k x.1) ++ output_arcs_of told n (k + 1) xs

-- ---- leaves of a hierarchy

-- a leaf of a hierarchy, in a design in which n elements stand twice
abbrev pub leaf_kept : Hierarchy → CellTable → ℕ → ℕ → LeafAt
leaf_kept h cells n l = record {
  elements = n;
  leaf = l;
  cell = (leaf_at h l).cell;
  first = (leaf_at h l).first_pin;
  inputs = input_count (leaf_cell h cells l);
  outputs = output_count (leaf_cell h cells l);
}

-- the arcs of leaf l
abbrev pub leaf_arcs_in : Told → List (List (List Transitions)) → Hierarchy → CellTable → ℕ → ℕ → List TimingArc
leaf_arcs_in told senses h cells n l = leaf_arcs_kept told senses (leaf_kept h cells n l) (number_in h cells l)
    (leaf_cell h cells l)
