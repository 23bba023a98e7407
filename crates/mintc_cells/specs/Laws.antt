-- What holds of the cells, and of the refusal, that a text gives.
use Rattle.std.specs.Prelude.{◌≡◌, ◌⊎◌, ℕ, List}
use Rattle.mintc_cells.specs.declared.cell.Cell.{Cell}
use Rattle.mintc_cells.specs.Entries.{AreAscending, AreKept, names_of}
use Rattle.mintc_cells.specs.CellsOf.{AreCells, IsBadCell}

-- a text has one list of cells at most
abbrev pub CellsAreDetermined : Type 0
CellsAreDetermined = (text : List ℕ) (a b : List (List ℕ × Cell)) → AreCells text a → AreCells text b → a ≡ b

-- a text that has cells isn't refused
abbrev pub CellsAreNotRefused : Type 0
CellsAreNotRefused = (text : List ℕ) (cells : List (List ℕ × Cell)) (n rule : ℕ) → AreCells text cells →
    IsBadCell text n rule → ⊥

-- a text has one refusal at most
abbrev pub BadCellsAreDetermined : Type 0
BadCellsAreDetermined = (text : List ℕ) (n rule m other : ℕ) → IsBadCell text n rule → IsBadCell text m other → (n ≡ m)
    × (rule ≡ other)

-- the cells of a text ascend by their names, and each keeps its rules
abbrev pub CellsKeepRules : Type 0
CellsKeepRules = (text : List ℕ) (cells : List (List ℕ × Cell)) → AreCells text cells → AreAscending (names_of cells)
    × AreKept cells

-- each text has cells or a refusal, be it TOML or not
abbrev pub TextsHaveCellsOrRefusals : Type 0
TextsHaveCellsOrRefusals = (text : List ℕ) → ((cells : List (List ℕ × Cell)) × AreCells text cells)
    ⊎ ((n : ℕ) × (rule : ℕ) × IsBadCell text n rule)
