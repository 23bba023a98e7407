-- Latches and flops by the table of all that delays say, with outputs counted among a cell's outputs.
use Rattle.std.specs.Prelude.{◌≤◌, ℕ, ◌+◌, ◌==◌, ℤ, List, map, Option, if◌then◌else◌}
use Rattle.std.specs.List.{range_with_len}
use Rattle.std.specs.Option.{option_or}
use Rattle.mintc_cells.specs.declared.cell.Cell.{Cell}
use Rattle.mintc_senses.specs.Senses.{sense_at}
use Rattle.mintc_senses_expressions.specs.declared.transitions.Transitions.{Transitions}
use Rattle.mintc_text.specs.declared.limits.TheConstants.{MOST_INNER}
use Rattle.mintc_timing.specs.declared.parts.Element.{Element}
use Rattle.mintc_annotate.specs.declared.stored.SaidOf.{SaidOf}
use Rattle.mintc_annotate.specs.Made.{is_flop}
use Rattle.mintc_annotate.specs.Said.{element_said}
use Rattle.mintc_edges.specs.declared.arcs.LeafAt.{LeafAt}
use Rattle.mintc_edges.specs.declared.edge.Edge.{Edge}
use Rattle.mintc_edges.specs.declared.spreads.Spread.{Spread}
use Rattle.mintc_edges.specs.declared.told.Told.{Told}
use Rattle.mintc_edges.specs.Edges.{each_edge, ends_of, edge_name}
use Rattle.mintc_edges.specs.Numbers.{widest}
use Rattle.mintc_edges.specs.Spreads.{all_of, all_said, at_or_all, said_at, said_to}
use Rattle.mintc_edges.specs.Told.{path_told, told_at}
use Rattle.mintc_edges.specs.Apart.{no_later_than}

-- it has as few pins as a design has inner bits
abbrev pub HasFewPins : LeafAt → Type 0
HasFewPins leaf = leaf.inputs + leaf.outputs ≤ MOST_INNER

-- what is told of the path from a pin of a leaf to an output
abbrev pub output_told : Told → LeafAt → ℕ → ℕ → Spread
output_told told stored from k = path_told told (stored.leaf, from, stored.inputs + k)

-- what all paths from a pin say, whatever the edge
abbrev pub merged_paths_kept : Told → LeafAt → ℕ → Option (ℤ × ℤ)
merged_paths_kept told stored from = widest (map (λ k. all_said (output_told told stored from k))
    (range_with_len 0 stored.outputs))

-- what a path says at an edge that an edge of the data makes: one from the data pin, which is the first pin, begins at
-- that edge
abbrev pub path_said : Spread → ℕ → Edge → Edge → Option (ℤ × ℤ)
path_said x from e y = if from == 0 then said_at x e y else said_to x y

-- what the path from a pin to output k says at the edges that an edge of the data makes
abbrev pub along_kept : Told → List (List (List Transitions)) → LeafAt → ℕ → Edge → ℕ → Option (ℤ × ℤ)
along_kept told senses stored from e k = widest (map (path_said (output_told told stored from k) from e)
    (ends_of (sense_at senses stored.cell 0 k) e))

-- the same of all outputs; where that is nothing, what is said whatever the edge
abbrev pub paths_kept : Told → List (List (List Transitions)) → LeafAt → ℕ → Edge → Option (ℤ × ℤ)
paths_kept told senses stored from e = option_or
    (widest (map (along_kept told senses stored from e) (range_with_len 0 stored.outputs)))
    (merged_paths_kept told stored from)

-- the pin from which the delays of the data are
abbrev pub data_pin : Cell → ℕ
data_pin cell = if is_flop cell then 1 else 0

-- what is said of a latch or flop whatever the edge
abbrev pub merged_said_kept : Told → LeafAt → Cell → SaidOf
merged_said_kept told stored cell = record {
  dq = merged_paths_kept told stored (data_pin cell);
  cq = merged_paths_kept told stored 1;
  setup = all_of (told_at told.setups.items stored.leaf);
  hold = all_of (told_at told.holds.items stored.leaf);
  width = all_of (told_at told.widths.items stored.leaf);
}

-- what is said of it where its data comes at an edge
abbrev pub said_kept : Told → List (List (List Transitions)) → LeafAt → Cell → Edge → SaidOf
said_kept told senses stored cell e = record {
  dq = paths_kept told senses stored (data_pin cell) e;
  cq = paths_kept told senses stored 1 e;
  setup = at_or_all (told_at told.setups.items stored.leaf) e;
  hold = at_or_all (told_at told.holds.items stored.leaf) e;
  width = all_of (told_at told.widths.items stored.leaf);
}

-- the two elements of a latch or flop
abbrev pub stored_elements_kept : Told → List (List (List Transitions)) → LeafAt → List ℕ → ℕ → Cell → List Element
stored_elements_kept told senses stored name phase cell =
    each_edge (λ e. no_later_than (element_said (merged_said_kept told stored cell) name phase cell)
    (element_said (said_kept told senses stored cell e) (edge_name name e) phase cell))
