-- The cells that a description gives without the keys of senses, and the senses that these say; or its refusal.
use Rattle.std.specs.Prelude.{◌≡◌, ℕ, not, List, [], map, Option, Some, None, unwrap_or, codes}
use Rattle.std.specs.List.{zip, position_from}
use Rattle.toml.specs.Data.{Data, Members, no_members, get_member}
use Rattle.toml.specs.Parse.{parse_document}
use Rattle.mintc_toml.specs.Documents.{IsDocument}
use Rattle.mintc_cells.specs.declared.cell.Cell.{Cell}
use Rattle.mintc_cells.specs.CellsOf.{Entry, entries_at, AreInTable, IsBadTable}
use Rattle.mintc_senses_expressions.specs.declared.transitions.Transitions.{Transitions}
use Rattle.mintcx_sense_keys.specs.Plain.{plain_document}
use Rattle.mintcx_sense_keys.specs.Senses.{keeps_nine, senses_said}

-- the entries of a document, none where it has no table of them
abbrev pub entries_in : Members → List Entry
entries_in ms = unwrap_or (entries_at (get_member (codes "cell") ms)) []

-- each entry with the cell that it stands for
abbrev pub with_cells : List Entry → List (List ℕ × Cell) → List (Data × Cell)
with_cells es cells = zip (map (λ (e : Entry). e.1) es) (map (λ (c : List ℕ × Cell). c.1) cells)

-- the number, counted on from n, of the first of them that fails rule 9
abbrev pub first_failing : ℕ → List (Data × Cell) → Option ℕ
first_failing n ps = position_from (λ p. not (keeps_nine p)) n ps

-- the number, from 1, of the first entry of a document that fails rule 9
abbrev pub first_unfit : Members → List (List ℕ × Cell) → Option ℕ
first_unfit ms cells = first_failing 1 (with_cells (entries_in ms) cells)

-- the senses that a document says of its cells, in their order
abbrev pub senses_in : Members → List (List ℕ × Cell) → List (List (List Transitions))
senses_in ms cells = map senses_said (with_cells (entries_in ms) cells)

-- the same of a text
abbrev pub senses_of_text : List ℕ → List (List ℕ × Cell) → List (List (List Transitions))
senses_of_text text cells = senses_in (unwrap_or (parse_document text) no_members) cells

-- a text is no document
abbrev pub IsNoDocument : List ℕ → Type 0
IsNoDocument text = (ms : Members) → IsDocument text ms → ⊥

-- The cells of the document of a text without the keys.
pub record ArePlainCells (text : List ℕ) (cells : List (List ℕ × Cell)) : Type 0 where
  pub document : Members
  pub is_document : IsDocument text document
  pub read : AreInTable (plain_document document) cells

-- the entry and the rule that fail first in it
pub data IsBadPlainCell (text : List ℕ) (n rule : ℕ) : Type 0 where
  no_document : IsNoDocument text → n ≡ 0 → rule ≡ 0 → IsBadPlainCell text n rule
  bad_table : (ms : Members) → IsDocument text ms → IsBadTable (plain_document ms) n rule →
      IsBadPlainCell text n rule

-- The cells of a text, whose keys keep rule 9.
pub record AreSensedCells (text : List ℕ) (cells : List (List ℕ × Cell)) : Type 0 where
  pub plain : ArePlainCells text cells
  pub fit : first_unfit plain.document cells ≡ None

-- The entry and the rule that fail first in a text. Rule 9 is judged when all else is in form.
pub data IsBadSensedCell (text : List ℕ) (n rule : ℕ) : Type 0 where
  bad_cell : IsBadPlainCell text n rule → IsBadSensedCell text n rule
  unfit : (cells : List (List ℕ × Cell)) (plain : ArePlainCells text cells) →
      first_unfit plain.document cells ≡ Some n → rule ≡ 9 → IsBadSensedCell text n rule
