-- What the bytes of a cell description stand for.
use Rattle.std.specs.Prelude.{◌≡◌, ℕ, ◌+◌, List, [], ◌∷◌, ◌++◌, length, map, Option, Some, None, option_map, Ok, Err}
use Rattle.std.specs.Prelude.{codes, if◌then◌else◌}
use Rattle.std.specs.List.{AllZip}
use Rattle.toml.specs.Data.{Data, Members, no_members, member, get_member, as_table}
use Rattle.mintc_text.specs.declared.refusals.Refusal.{Refusal}
use Rattle.mintc_text.specs.declared.refusals.Refusal.TheVariants as refusal
use Rattle.mintc_toml.specs.Documents.{IsDocument}
use Rattle.mintc_toml.specs.Lookups.{has_only}
use Rattle.mintc_cells.specs.declared.cell.Cell.{Cell}
use Rattle.mintc_cells.specs.Entries.{AreAscending}
use Rattle.mintc_cells.specs.Description.{cell_of}

-- an entry of a table: its key and its value
abbrev pub Entry : Type 0
Entry = List ℕ × Data

-- the entries of a table, in its order
abbrev pub entries : Members → List Entry
entries no_members = []
entries (member k d ms) = (k, d) ∷ entries ms

-- the entries of the table `cell`: none where there is no such key, None where it is no table or there are other keys
abbrev pub entries_at : Option Data → Option (List Entry)
entries_at None = Some []
entries_at (Some d) = option_map entries (as_table d)

-- the entries that a document describes, None where it has other keys or `cell` is no table
abbrev pub described : Members → Option (List Entry)
described ms = if has_only (codes "cell" ∷ []) ms then entries_at (get_member (codes "cell") ms) else None

-- they are the entries that a document describes, in byte order of their names
pub record AreDescribed (ms : Members) (es : List Entry) : Type 0 where
  pub is_list : described ms ≡ Some es
  pub ascending : AreAscending (map (λ (e : Entry). e.0) es)

-- the cells are those that the entries stand for, each under its name
abbrev pub IsReadAs : Entry → List ℕ × Cell → Type 0
IsReadAs e c = (c.0 ≡ e.0) × (cell_of e.0 e.1 ≡ Ok c.1)

-- each of these cells is that of the entry in its place
abbrev pub AreRead : List Entry → List (List ℕ × Cell) → Type 0
AreRead es cells = AllZip IsReadAs es cells

-- entry n, from 1, is the first that stands for no cell, and this is the least rule that it fails
pub record IsFirstBad (es : List Entry) (n rule : ℕ) : Type 0 where
  pub before : List Entry
  pub cells : List (List ℕ × Cell)
  pub bad : Entry
  pub after : List Entry
  pub whole : es ≡ before ++ bad ∷ after
  pub read : AreRead before cells
  pub fails : cell_of bad.0 bad.1 ≡ Err rule
  pub count : n ≡ length before + 1

-- the cells that a document describes
pub record AreInTable (ms : Members) (cells : List (List ℕ × Cell)) : Type 0 where
  pub list : List Entry
  pub are_described : AreDescribed ms list
  pub read : AreRead list cells

-- the entry and the rule that fail first in a document
pub data IsBadTable (ms : Members) (n rule : ℕ) : Type 0 where
  no_table : described ms ≡ None → n ≡ 0 → rule ≡ 1 → IsBadTable ms n rule
  bad_entry : (es : List Entry) → AreDescribed ms es → IsFirstBad es n rule → IsBadTable ms n rule

-- the cells that a text describes
abbrev pub AreCells : List ℕ → List (List ℕ × Cell) → Type 0
AreCells text cells = (ms : Members) × IsDocument text ms × AreInTable ms cells

-- the entry and the rule that fail first in a text
pub data IsBadCell (text : List ℕ) (n rule : ℕ) : Type 0 where
  no_document : ((ms : Members) → IsDocument text ms → ⊥) → n ≡ 0 → rule ≡ 0 → IsBadCell text n rule
  bad_table : (ms : Members) → IsDocument text ms → IsBadTable ms n rule → IsBadCell text n rule

-- the refusal is that of a cell, of whose entry and rule this holds
abbrev pub IsBadCellBy : (ℕ → ℕ → Type 0) → Refusal → Type 0
IsBadCellBy P (refusal.BadCell n rule) = P n rule
IsBadCellBy P _ = ⊥
