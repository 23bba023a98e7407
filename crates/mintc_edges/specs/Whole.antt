-- The whole design by the table of all that delays say.
use Rattle.std.specs.Prelude.{ℕ, ◌+◌, true, false, List, ◌++◌, map, flat_map, zip, length}
use Rattle.mintc_clock.specs.declared.clock.Clock.{Clock}
use Rattle.mintc_clock.specs.declared.clock.Listed.{Listed}
use Rattle.mintc_flatten_hierarchy.specs.declared.hierarchy.Hierarchy.{Hierarchy}
use Rattle.mintc_flatten_hierarchy.specs.Shape.{CellTable}
use Rattle.mintc_senses_expressions.specs.declared.transitions.Transitions.{Transitions}
use Rattle.mintc_timing.specs.declared.parts.Element.{Element}
use Rattle.mintc_timing.specs.declared.parts.TimingArc.{TimingArc}
use Rattle.mintc_timing.specs.Design.{Design}
use Rattle.mintc_annotate_resolve.specs.Pins.{leaf_cell, leaf_path, dotted, all_leaves}
use Rattle.mintc_annotate.specs.Made.{bits_of}
use Rattle.mintc_annotate.specs.Phases.{storage}
use Rattle.mintc_edges.specs.declared.told.Told.{Told}
use Rattle.mintc_edges.specs.Edges.{each_edge}
use Rattle.mintc_edges.specs.Apart.{port_elements, input_arcs_apart, names_apart}
use Rattle.mintc_edges.specs.Kept.{join_arc_kept, leaf_kept, leaf_arcs_in, output_arcs_of}
use Rattle.mintc_edges.specs.Stored.{stored_elements_kept}

-- the elements of leaf l on a phase
abbrev pub leaf_elements_kept : Told → List (List (List Transitions)) → Hierarchy → CellTable → ℕ × ℕ → List Element
leaf_elements_kept told senses h cells x = stored_elements_kept told senses (leaf_kept h cells 0 x.0)
    (dotted (leaf_path h x.0)) x.1 (leaf_cell h cells x.0)

-- all elements
abbrev pub elements_kept : Told → List (List (List Transitions)) → Hierarchy → CellTable → Clock → List ℕ →
    List Element
elements_kept told senses h cells clock phases =
    flat_map (leaf_elements_kept told senses h cells) (zip (storage h cells) phases)
    ++ flat_map (port_elements h) (bits_of h false clock.inputs)
    ++ flat_map (port_elements h) (bits_of h true clock.outputs)

-- all arcs, where the listed inputs and outputs have these bits
abbrev pub arcs_kept : Told → List (List (List Transitions)) → Hierarchy → CellTable → List (Listed × ℕ) →
    List (Listed × ℕ) → List TimingArc
arcs_kept told senses h cells inputs outputs =
    let stored = length (storage h cells) in
    let n = stored + length inputs + length outputs in
    flat_map (λ j. each_edge (join_arc_kept told n j)) h.joins
    ++ flat_map (leaf_arcs_in told senses h cells n) (all_leaves h)
    ++ input_arcs_apart n stored inputs
    ++ output_arcs_of told n (stored + length inputs) outputs

-- the design, whose latches and flops have these phases
abbrev pub design_kept : Told → List (List (List Transitions)) → Hierarchy → CellTable → Clock → List ℕ → Design
design_kept told senses h cells clock phases = record {
  phases = map (λ p. p.name) clock.phases;
  elements = elements_kept told senses h cells clock phases;
  inner = names_apart h;
  arcs = arcs_kept told senses h cells (bits_of h false clock.inputs) (bits_of h true clock.outputs);
  bounds = clock.bounds;
}
