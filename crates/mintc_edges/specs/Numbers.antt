-- What delays say at an edge or at a transition.
use Rattle.std.specs.Prelude.{ℕ, ◌-◌, ℤ, Bool, false, ◌&&◌, List, [], ◌∷◌, map, filter, flat_map, slice_index_or}
use Rattle.std.specs.Prelude.{Option, Some, None, bytes_eq, if◌then◌else◌}
use Rattle.std.specs.Option.{option_or}
use Rattle.mintc_cells.specs.Rules.{pins}
use Rattle.mintc_cells.specs.Entries.{cell_at}
use Rattle.mintc_senses.specs.Senses.{sense_at}
use Rattle.mintc_flatten_hierarchy.specs.declared.hierarchy.Hierarchy.{Hierarchy}
use Rattle.mintc_flatten_hierarchy.specs.Shape.{CellTable}
use Rattle.mintc_sdf.specs.declared.delays.Delay.{Delay}
use Rattle.mintc_sdf.specs.declared.delays.Subject.{Subject}
use Rattle.mintc_sdf.specs.declared.delays.Subject.TheVariants as subject
use Rattle.mintc_sdf_edges.specs.declared.delays.Edges.{Edges}
use Rattle.mintc_sdf_edges.specs.declared.delays.EdgeDelay.{EdgeDelay}
use Rattle.mintc_senses_expressions.specs.declared.transitions.Transitions.{Transitions}
use Rattle.mintc_annotate_resolve.specs.Pins.{leaf_at, leaf_cell, input_count, output_numbers}
use Rattle.mintc_annotate_resolve.specs.Resolution.{Target, dq_of, cq_of, setup_of, hold_of, said, range_of, widened}
use Rattle.mintc_annotate.specs.Made.{RangeOf, is_latch}
use Rattle.mintc_edges.specs.declared.edge.Edge.{Edge}
use Rattle.mintc_edges.specs.declared.edge.Transition.{Transition}
use Rattle.mintc_edges.specs.Edges.{only, any, share, ends_of}

-- the transitions from an input pin of a cell to an output pin, each by its number
abbrev pub SenseOf : Type 0
SenseOf = ℕ → ℕ → ℕ → Transitions

-- the sense of pins of a cell, where senses count outputs among a cell's outputs
abbrev pub sense_of : List (List (List Transitions)) → CellTable → SenseOf
sense_of senses cells c i o = sense_at senses c i (o - input_count (cell_at cells c))

-- delays without their edges
abbrev pub without_edges : List EdgeDelay → List Delay
without_edges ds = map (λ d. d.delay) ds

-- what delays say of a target, whatever their edges
abbrev pub merged_range : Hierarchy → CellTable → List EdgeDelay → RangeOf
merged_range h cells ds = range_of (said h cells (without_edges ds))

-- whether a delay speaks of a transition from one of some edges to one of others
abbrev pub speaks_of : Edges → Edges → EdgeDelay → Bool
speaks_of from to d = share from d.edge && share to d.speaks

-- What delays say of a target at transitions from some edges to others: what those say that speak of them; where none
-- does, what all say.
abbrev pub range_at : Hierarchy → CellTable → List EdgeDelay → Edges → Edges → RangeOf
range_at h cells ds from to m = option_or (merged_range h cells (filter (speaks_of from to) ds) m)
    (merged_range h cells ds m)

-- what delays say of a wire at an edge, which it keeps
abbrev pub wire_range : Hierarchy → CellTable → List EdgeDelay → Edge → RangeOf
wire_range h cells ds e = range_at h cells ds any (only e)

-- what delays say of the path through a gate at a transition
abbrev pub gate_range : Hierarchy → CellTable → List EdgeDelay → Transition → RangeOf
gate_range h cells ds t = range_at h cells ds (only t.from) (only t.to)

-- ---- latches and flops

-- whether a subject is a path to the output pin of a name
abbrev pub leads_to : List ℕ → Subject → Bool
leads_to name (subject.Iopath from to) = bytes_eq to name
leads_to name _ = false

-- the delays of paths to the output pin of a name
abbrev pub to_pin : List ℕ → List EdgeDelay → List EdgeDelay
to_pin name ds = filter (λ d. leads_to name d.delay.subject) ds

-- what both say
abbrev pub wider : Option (ℤ × ℤ) → Option (ℤ × ℤ) → Option (ℤ × ℤ)
wider None r = r
wider (Some x) r = Some (widened x.0 x.1 r)

-- what all say
abbrev pub widest : List (Option (ℤ × ℤ)) → Option (ℤ × ℤ)
widest [] = None
widest (r ∷ rs) = wider r (widest rs)

-- what delays to output pin o of leaf l say of data that came at an edge: at each edge that the output then makes
abbrev pub pin_ranges : Hierarchy → CellTable → SenseOf → List EdgeDelay → Edges → Target → ℕ → Edge → ℕ →
    List (Option (ℤ × ℤ))
pin_ranges h cells sense ds from m l e o =
    map (λ y. range_at h cells (to_pin (slice_index_or (pins (leaf_cell h cells l)) o []) ds) from (only y) m)
    (ends_of (sense (leaf_at h l).cell 0 o) e)

-- the same to all output pins together, and where they say nothing, what is said whatever the edge
abbrev pub stored_range : Hierarchy → CellTable → SenseOf → List EdgeDelay → Edges → Target → ℕ → Edge → Option (ℤ × ℤ)
stored_range h cells sense ds from m l e =
    option_or (widest (flat_map (pin_ranges h cells sense ds from m l e) (output_numbers (leaf_cell h cells l))))
    (merged_range h cells ds m)

-- What delays say of a latch or flop whose data comes at an edge. A path from the data pin of a latch begins at that
-- edge; the edge at an enable or a clock pin isn't read; a pulse has both edges.
abbrev pub element_range : Hierarchy → CellTable → SenseOf → List EdgeDelay → Edge → RangeOf
element_range h cells sense ds e (dq_of l) =
    stored_range h cells sense ds (if is_latch (leaf_cell h cells l) then only e else any) (dq_of l) l e
element_range h cells sense ds e (cq_of l) = stored_range h cells sense ds any (cq_of l) l e
element_range h cells sense ds e (setup_of l) = range_at h cells ds (only e) any (setup_of l)
element_range h cells sense ds e (hold_of l) = range_at h cells ds (only e) any (hold_of l)
element_range h cells sense ds e m = merged_range h cells ds m
