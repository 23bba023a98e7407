-- Cells in their columns, and the ends of lines. A blank is the byte 32.
use Rattle.std.specs.Prelude.{ℕ, ◌-◌, ◌==◌, max, List, [], ◌∷◌, ◌++◌, length, replicate, slice_index_or, if◌then◌else◌}
use Rattle.std.specs.List.{fold}
use Rattle.mintcx_columns.specs.declared.cells.Side.{Side}
use Rattle.mintcx_columns.specs.declared.cells.Side.TheVariants.{Left, Right}

abbrev pub blanks : ℕ → List ℕ
blanks n = replicate n 32

-- a cell of a row, empty where the row ends before
abbrev pub cell_of : ℕ → List (List ℕ) → List ℕ
cell_of column row = slice_index_or row column []

-- how wide a column is: at least so many bytes, and as its widest cell
abbrev pub width_of : ℕ → ℕ → List (List (List ℕ)) → ℕ
width_of least column rows = fold (λ width row. max width (length (cell_of column row))) least rows

-- a cell with blanks up to the width of its column
abbrev pub padded : Side → ℕ → List ℕ → List ℕ
padded Left width cell = cell ++ blanks (width - length cell)
padded Right width cell = blanks (width - length cell) ++ cell

-- a byte before the rest of a line, where a blank before nothing is left out
abbrev pub before : ℕ → List ℕ → List ℕ
before byte [] = if byte == 32 then [] else byte ∷ []
before byte (next ∷ rest) = byte ∷ next ∷ rest

-- a line without the blanks at its end
abbrev pub trimmed : List ℕ → List ℕ
trimmed [] = []
trimmed (byte ∷ rest) = before byte (trimmed rest)
