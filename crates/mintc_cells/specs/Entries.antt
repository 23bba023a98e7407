-- What the entries of a `Cells` keep.
use Rattle.std.specs.Prelude.{ℕ, ◌<◌, ◌^◌, List, [], map, length, Option, bytes_eq, position, Bool, ◌&&◌, IsTrue}
use Rattle.std.specs.Prelude.{nat_le, pos, slice_index_or}
use Rattle.std.specs.List.{list_all}
use Rattle.std.specs.Ordering.{nat_cmp}
use Rattle.std.specs.Cmp.Lexicographic.{slice_cmp}
use Rattle.std.specs.List.Sorted.{IsStrictlySortedBy}
use Rattle.mintc_cells.specs.declared.cell.Cell.{Cell}
use Rattle.mintc_cells.specs.declared.cell.Cell.TheVariants.{Gate}
use Rattle.mintc_toml.specs.Rules.{is_name}
use Rattle.mintc_cells.specs.Rules.{is_cell, has_defaults, inputs_of}

-- the names of some cells
abbrev pub names_of : List (List ℕ × Cell) → List (List ℕ)
names_of cells = map (λ e. e.0) cells

-- the names ascend in byte order, each once
abbrev pub AreAscending : List (List ℕ) → Type 0
AreAscending names = IsStrictlySortedBy (slice_cmp nat_cmp) names

-- the number of the cell with a name
abbrev pub number_of : List (List ℕ × Cell) → List ℕ → Option ℕ
number_of cells name = position (bytes_eq name) (names_of cells)

-- each name is one, and each cell keeps its rules
abbrev pub is_kept : List ℕ × Cell → Bool
is_kept entry = (is_name entry.0 && is_cell entry.1) && has_defaults entry.1

-- so it is with each of them
abbrev pub AreKept : List (List ℕ × Cell) → Type 0
AreKept cells = IsTrue (list_all is_kept cells)

-- the name and the cell of a number
abbrev pub no_cell : List ℕ × Cell
no_cell = ([], Gate [] [] (pos 0) (pos 0))

-- the name of the cell with a number
abbrev pub name_at : List (List ℕ × Cell) → ℕ → List ℕ
name_at cells at = (slice_index_or cells at no_cell).0

-- the cell with a number
abbrev pub cell_at : List (List ℕ × Cell) → ℕ → Cell
cell_at cells at = (slice_index_or cells at no_cell).1

-- whether a pin of a cell is an output
abbrev pub is_output : Cell → ℕ → Bool
is_output cell number = nat_le (length (inputs_of cell)) number

-- what a list of cells keeps so that it makes a `Cells`
pub record AreOrdered (cells : List (List ℕ × Cell)) : Type 0 where
  pub few : length cells < 2 ^ 32
  pub ascending : AreAscending (names_of cells)
  pub each : AreKept cells
