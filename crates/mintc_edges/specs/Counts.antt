-- How many arcs the design has.
use Rattle.std.specs.Prelude.{ℕ, ◌+◌, List, length, sum_by}
use Rattle.std.specs.List.{range_with_len}
use Rattle.mintc_cells.specs.declared.cell.Cell.{Cell}
use Rattle.mintc_cells.specs.declared.cell.Cell.TheVariants.{Gate, Clock}
use Rattle.mintc_flatten_hierarchy.specs.declared.hierarchy.Hierarchy.{Hierarchy}
use Rattle.mintc_flatten_hierarchy.specs.Shape.{CellTable}
use Rattle.mintc_annotate_resolve.specs.Pins.{leaf_at, leaf_cell, all_leaves, input_numbers, output_numbers}
use Rattle.mintc_edges.specs.Edges.{transitions_of}
use Rattle.mintc_senses_expressions.specs.declared.transitions.Transitions.{Transitions}
use Rattle.mintc_senses.specs.Senses.{sense_at}
use Rattle.mintc_edges.specs.Numbers.{SenseOf}

-- how many arcs there are from an input pin of a cell to all outputs
abbrev pub pin_arc_count : SenseOf → ℕ → Cell → ℕ → ℕ
pin_arc_count sense number cell i = sum_by (λ o. length (transitions_of (sense number i o))) (output_numbers cell)

-- how many arcs a leaf of a cell of a number has
abbrev pub arc_count : SenseOf → ℕ → Cell → ℕ
arc_count sense number (Gate inputs outputs min max) = sum_by
    (pin_arc_count sense number (Gate inputs outputs min max)) (input_numbers (Gate inputs outputs min max))
arc_count sense number (Clock input output invert ignored) = 0
arc_count sense number cell = 2 + pin_arc_count sense number cell 0

-- how many arcs all leaves have
abbrev pub leaf_arc_count : Hierarchy → CellTable → SenseOf → ℕ
leaf_arc_count h cells sense = sum_by (λ l. arc_count sense (leaf_at h l).cell (leaf_cell h cells l)) (all_leaves h)

-- ---- the same with outputs counted among a cell's outputs

-- how many arcs there are from an input pin of a cell to so many outputs
abbrev pub row_count : List (List (List Transitions)) → ℕ → ℕ → ℕ → ℕ
row_count senses cell input outputs = sum_by (λ o. length (transitions_of (sense_at senses cell input o)))
    (range_with_len 0 outputs)

-- how many there are from so many inputs
abbrev pub gate_count : List (List (List Transitions)) → ℕ → ℕ → ℕ → ℕ
gate_count senses cell inputs outputs = sum_by (λ i. row_count senses cell i outputs) (range_with_len 0 inputs)
