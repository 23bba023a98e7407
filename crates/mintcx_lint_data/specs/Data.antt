-- Data pins that have their data from a cell of the clock.
use Rattle.std.specs.Prelude.{◌≡◌, ℕ, Bool, true, false, if◌then◌else◌, List, [], ◌∷◌, length, slice_index_or}
use Rattle.std.specs.Prelude.{Option, Some, None}
use Rattle.std.specs.List.{flat_map, range_with_len}
use Rattle.mintc_cells.specs.declared.cell.Cell.{Cell}
use Rattle.mintc_cells.specs.declared.cell.Cell.TheVariants.{Gate, Latch, Flop, Clock}
use Rattle.mintc_flatten_hierarchy.specs.declared.hierarchy.Hierarchy.{Hierarchy}
use Rattle.mintc_flatten_hierarchy.specs.declared.hierarchy.Inner.{Inner}
use Rattle.mintc_flatten_hierarchy.specs.declared.hierarchy.Inner.TheVariants.{Net, Pin}
use Rattle.mintc_flatten_hierarchy.specs.Shape.{CellTable}
use Rattle.mintc_annotate_resolve.specs.Pins.{all_leaves, leaf_at, leaf_cell, pin_bit}
use Rattle.mintcx_lint_data.specs.declared.data.DataPath.{DataPath}
use Rattle.mintcx_lint_data.specs.Back.{AreSources}

-- How many data pins a cell has: all inputs of a gate, the one of a latch or flop. They are its first pins.
abbrev pub data_pins : Cell → ℕ
data_pins (Gate inputs outputs min max) = length inputs
data_pins (Clock input output invert ignored) = 0
data_pins cell = 1

-- whether a cell is one of the clock
abbrev pub is_clock : Cell → Bool
is_clock (Clock input output invert ignored) = true
is_clock cell = false

-- a bit that stands for those past the end of a list
abbrev pub no_inner : Inner
no_inner = Net 0 [] None

-- the cell of the clock of which a bit is a pin, by its number, where it is one of such a cell
abbrev pub clock_of : Hierarchy → CellTable → Inner → Option ℕ
clock_of h cells (Net scope name index) = None
clock_of h cells (Pin leaf pin) = if is_clock (leaf_cell h cells leaf) then Some (leaf_at h leaf).cell else None

-- the same by the number of the bit
abbrev pub clock_cell : Hierarchy → CellTable → ℕ → Option ℕ
clock_cell h cells b = clock_of h cells (slice_index_or h.inner b no_inner)

-- a path to a pin of a leaf from a bit, where that is a pin of a cell of the clock
abbrev pub path_from : Option ℕ → ℕ → ℕ → ℕ → List DataPath
path_from None source leaf pin = []
path_from (Some cell) source leaf pin = record { cell = cell; source = source; leaf = leaf; pin = pin } ∷ []

-- the bit that a pin of a leaf has its data from, where these are the bits that all bits have it from
abbrev pub source_at : Hierarchy → List ℕ → ℕ → ℕ → ℕ
source_at h sources leaf pin = slice_index_or sources (pin_bit h leaf pin) 0

-- the path to a data pin, where its data is from a cell of the clock
abbrev pub path_at : Hierarchy → CellTable → List ℕ → ℕ → ℕ → List DataPath
path_at h cells sources leaf pin =
    path_from (clock_cell h cells (source_at h sources leaf pin)) (source_at h sources leaf pin) leaf pin

-- the paths to the data pins of a leaf
abbrev pub leaf_paths : Hierarchy → CellTable → List ℕ → ℕ → List DataPath
leaf_paths h cells sources leaf =
    flat_map (path_at h cells sources leaf) (range_with_len 0 (data_pins (leaf_cell h cells leaf)))

-- the paths to the data pins of all leaves
abbrev pub data_paths : Hierarchy → CellTable → List ℕ → List DataPath
data_paths h cells sources = flat_map (leaf_paths h cells sources) (all_leaves h)

-- These are the paths to all data pins whose data is from a cell of the clock, along joins.
abbrev pub AreDataPaths : Hierarchy → CellTable → List DataPath → Type 0
AreDataPaths h cells paths =
    (sources : List ℕ) × AreSources h.joins (length h.inner) sources × (paths ≡ data_paths h cells sources)
