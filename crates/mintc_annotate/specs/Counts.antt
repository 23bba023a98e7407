-- Counts of arcs, and listed bits by the places of their ports.
use Rattle.std.specs.Prelude.{◌<◌, ◌≤◌, ℕ, ◌+◌, ◌*◌, ℤ, pos, false, List, [], length, slice_index_or, sum_by}
use Rattle.mintc_text.specs.declared.limits.TheConstants.{MOST_ELEMENTS, MOST_INNER}
use Rattle.mintc_cells.specs.declared.cell.Cell.{Cell}
use Rattle.mintc_cells.specs.declared.cell.Cell.TheVariants.{Gate, Latch, Flop, Clock}
use Rattle.mintc_flatten_hierarchy.specs.declared.hierarchy.Hierarchy.{Hierarchy}
use Rattle.mintc_flatten_hierarchy.specs.Shape.{CellTable}
use Rattle.mintc_clock.specs.declared.clock.Listed.{Listed}
use Rattle.mintc_annotate_resolve.specs.Pins.{leaf_cell, all_leaves}
use Rattle.mintc_annotate.specs.declared.listing.ListedBit.{ListedBit}
use Rattle.mintc_annotate.specs.declared.arcs.GateAt.{GateAt}

-- a listed port that stands for those past the end of a list
abbrev pub no_listed : Listed
no_listed = record { port = []; phase = 0; min = pos 0; max = pos 0; setup = pos 0; hold = pos 0; has_hold = false }

-- a bit of the listed port at a place, and the bit with its port
abbrev pub place_bit : ℕ → ℕ → ListedBit
place_bit place bit = record { place = place; bit = bit }

-- the bit with its port
abbrev pub with_port : List Listed → ListedBit → Listed × ℕ
with_port listed x = (slice_index_or listed x.place no_listed, x.bit)

-- the port and the bit are there
abbrev pub IsListedBit : ℕ → ℕ → ListedBit → Type 0
IsListedBit ports bits x = (x.place < ports) × (x.bit < bits)

-- how many arcs a leaf of a cell has
abbrev pub arc_count : Cell → ℕ
arc_count (Gate inputs outputs min max) = length inputs * length outputs
arc_count (Latch pin_d pin_g high outputs ignored setup hold has_hold dq_min dq_max cq_min cq_max has_cq width) = length
    outputs + 1
arc_count (Flop pin_d pin_clock rising outputs ignored setup hold has_hold cq_min cq_max width) = length outputs + 1
arc_count (Clock input output invert ignored) = 0

-- how many arcs all leaves have
abbrev pub leaf_arc_count : Hierarchy → CellTable → ℕ
leaf_arc_count h cells = sum_by (λ l. arc_count (leaf_cell h cells l)) (all_leaves h)

-- a gate by its numbers
abbrev pub gate_at : ℕ → ℕ → ℕ → ℤ × ℤ → ℕ → ℕ → GateAt
gate_at elements leaf first default inputs outputs = record {
  elements = elements;
  leaf = leaf;
  first = first;
  default = default;
  inputs = inputs;
  outputs = outputs;
}

-- its numbers are as small as those of a design within its limits
pub record IsSmall (gate : GateAt) : Type 0 where
  pub elements : gate.elements ≤ MOST_ELEMENTS
  pub pins : gate.first + (gate.inputs + gate.outputs) ≤ MOST_INNER
