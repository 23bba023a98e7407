-- What holds of the cells, the senses and the refusal that a text gives.
use Rattle.std.specs.Prelude.{◌≡◌, ℕ, Bool, true, not, ◌&&◌, is_some, List, codes}
use Rattle.std.specs.List.{list_all}
use Rattle.toml.specs.Data.{Members, get_member}
use Rattle.mintc_toml.specs.Documents.{IsDocument}
use Rattle.mintc_cells.specs.declared.cell.Cell.{Cell}
use Rattle.mintc_cells.specs.CellsOf.{Entry, AreCells, IsBadCell}
use Rattle.mintc_senses.specs.Senses.{sense_at}
use Rattle.mintc_senses_expressions.specs.Transitions.{all_transitions}
use Rattle.mintcx_sense_keys.specs.Senses.{table_in}
use Rattle.mintcx_sense_keys.specs.SensedCells.{entries_in, senses_of_text, ArePlainCells}
use Rattle.mintcx_sense_keys.specs.SensedCells.{AreSensedCells, IsBadSensedCell}

-- a text has one list of cells without the keys at most
abbrev pub PlainCellsAreDetermined : Type 0
PlainCellsAreDetermined = (text : List ℕ) (a b : List (List ℕ × Cell)) → ArePlainCells text a → ArePlainCells text b →
    a ≡ b

-- a text that has cells and senses isn't refused
abbrev pub SensedCellsAreNotRefused : Type 0
SensedCellsAreNotRefused = (text : List ℕ) (cells : List (List ℕ × Cell)) (n rule : ℕ) → AreSensedCells text cells →
    IsBadSensedCell text n rule → ⊥

-- a text has one refusal at most
abbrev pub BadSensedCellsAreDetermined : Type 0
BadSensedCellsAreDetermined = (text : List ℕ) (n rule m other : ℕ) → IsBadSensedCell text n rule →
    IsBadSensedCell text m other → (n ≡ m) × (rule ≡ other)

-- whether a table has neither key
abbrev pub has_neither : Members → Bool
has_neither ms = not (is_some (get_member (codes "positive") ms)) && not (is_some (get_member (codes "negative") ms))

-- no entry of a text has one of the keys
pub record IsKeyless (text : List ℕ) : Type 0 where
  pub document : Members
  pub is_document : IsDocument text document
  pub neither : list_all (λ (e : Entry). has_neither (table_in e.1)) (entries_in document) ≡ true

-- a text without the keys has the cells that it has where they aren't read, the same refusal, and all transitions
pub record KeylessTextsArePlain : Type 0 where
  pub plain : (text : List ℕ) (cells : List (List ℕ × Cell)) → IsKeyless text → ArePlainCells text cells →
      AreCells text cells
  pub sensed : (text : List ℕ) (cells : List (List ℕ × Cell)) → IsKeyless text → AreCells text cells →
      AreSensedCells text cells
  pub bad : (text : List ℕ) (n rule : ℕ) → IsKeyless text → IsBadSensedCell text n rule → IsBadCell text n rule
  pub refused : (text : List ℕ) (n rule : ℕ) → IsKeyless text → IsBadCell text n rule → IsBadSensedCell text n rule
  pub all : (text : List ℕ) (cells : List (List ℕ × Cell)) (cell input output : ℕ) → IsKeyless text →
      sense_at (senses_of_text text cells) cell input output ≡ all_transitions

-- a text whose cells are read where the keys aren't has none of them
abbrev pub CellsHaveNoKeys : Type 0
CellsHaveNoKeys = (text : List ℕ) (cells : List (List ℕ × Cell)) → AreCells text cells → IsKeyless text
