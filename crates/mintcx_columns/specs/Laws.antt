-- What lines keep.
use Rattle.std.specs.Prelude.{◌≡◌, ℕ, ◌≤◌, ◌<◌, List, [], ◌∷◌, ◌++◌, length, slice_index_or}
use Rattle.mintcx_columns.specs.declared.cells.Side.{Side}
use Rattle.mintcx_columns.specs.Cells.{blanks, cell_of, width_of, padded, trimmed}

-- A line loses blanks at its end and nothing else, and ends in no blank. A cell is at most as wide as its column, and
-- padded exactly as wide.
pub record LinesKeepCells : Type 0 where
  pub lost : (line : List ℕ) → (n : ℕ) × (line ≡ trimmed line ++ blanks n)
  pub ends : (line front : List ℕ) → trimmed line ≡ front ++ 32 ∷ [] → ⊥
  pub fits : (least column : ℕ) (rows : List (List (List ℕ))) (r : ℕ) → r < length rows →
      length (cell_of column (slice_index_or rows r [])) ≤ width_of least column rows
  pub wide : (side : Side) (width : ℕ) (cell : List ℕ) → length cell ≤ width → length (padded side width cell) ≡ width
