-- Tables and their texts.
use Rattle.std.specs.Prelude.{ℕ, zero, suc, List, [], ◌∷◌, ◌++◌, length, map, slice_index, slice_index_or}
use Rattle.mintc_text.specs.Lines.{text_of}
use Rattle.mintcx_columns.specs.declared.cells.Side.TheVariants.{Left}
use Rattle.mintcx_columns.specs.declared.cells.Column.{Column}
use Rattle.mintcx_columns.specs.Cells.{blanks, cell_of, width_of, padded, trimmed}

-- what a table is: its columns, and its rows of cells
pub record Grid : Type 0 where
  pub columns : List Column
  pub rows : List (List (List ℕ))

-- a column by its number; past the last one stands this one
abbrev pub no_column : Column
no_column = record { side = Left; least = 0 }

abbrev pub column_at : List Column → ℕ → Column
column_at columns n = slice_index_or columns n no_column

-- the widths of the first n columns
abbrev pub widths_of : List Column → List (List (List ℕ)) → ℕ → List ℕ
widths_of columns rows zero = []
widths_of columns rows (suc n) = widths_of columns rows n ++ width_of (column_at columns n).least n rows ∷ []

-- the first n cells of a row, each padded to its width and after two blanks
abbrev pub padded_cells : List Column → List ℕ → List (List ℕ) → ℕ → List ℕ
padded_cells columns widths row zero = []
padded_cells columns widths row (suc n) =
    padded_cells columns widths row n
    ++ (blanks 2 ++ padded (column_at columns n).side (slice_index widths n) (cell_of n row))

-- the line of a row: its padded cells without blanks at the end
abbrev pub line_of : List Column → List ℕ → List (List ℕ) → List ℕ
line_of columns widths row = trimmed (padded_cells columns widths row (length columns))

-- the text of a table: the line of each row
abbrev pub table_text : Grid → List ℕ
table_text t = text_of (map (line_of t.columns (widths_of t.columns t.rows (length t.columns))) t.rows)
