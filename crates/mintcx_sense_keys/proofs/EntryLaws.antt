-- The entries of a document and the cells that they stand for without the keys.
use Rattle.std.proofs.Common.{◌≡◌, ℕ, suc, ◌+◌, Bool, true, false, cond, List, [], ◌∷◌, ◌++◌, length, map, drop, Option, Some, None, option_map, refl, sym, ap, ◌∙◌, arith, String, Global, Ordering, Less, Equal, Greater, nat_cmp, codes}
use Rattle.std.specs.Cmp.Lexicographic.{slice_cmp}
use Rattle.std.specs.Ordering.{match_ordering}
use Rattle.toml.specs.declared.value.Value.{Value}
use Rattle.toml.specs.Data.{Data, string, integer, float, boolean, datetime, array, table, Members, no_members, member, get_member, as_table}
use Rattle.toml.specs.View.{members_view}
use Rattle.mintc_toml.specs.Documents.{IsDocument}
use Rattle.mintc_toml.specs.Lookups.{has_only}
use Rattle.mintc_cells.specs.declared.cell.Cell.{Cell}
use Rattle.mintc_cells.specs.CellsOf.{Entry, entries, entries_at, AreRead, AreInTable}
use Rattle.mintcx_sense_keys.specs.Plain.{each_value, plain_entry, plain_entries, plain_document}
use Rattle.mintcx_sense_keys.specs.SensedCells.{with_cells}

-- one document
pub one_document : (text : List ℕ) (ms other : Members) → IsDocument text ms → IsDocument text other → ms ≡ other
one_document text ms other h g = same_some ms other (sym h.1 ∙ g.1)
  where
    same_some : (a b : Members) → Some a ≡ Some b → a ≡ b
    same_some a b e = cc

length-AreRead : (es : List Entry) (cells : List (List ℕ × Cell)) → AreRead es cells → length es ≡ length cells
length-AreRead [] [] h = refl
length-AreRead [] (c ∷ cells) h = absurd h
length-AreRead (x ∷ es) [] h = absurd h
length-AreRead (x ∷ es) (c ∷ cells) h = ap suc (length-AreRead es cells h.1)

-- as many entries stay
length-each : (f : Data → Data) (ms : Members) → length (entries (each_value f ms)) ≡ length (entries ms)
length-each f no_members = refl
length-each f (member k d ms) = ap suc (length-each f ms)

length-view : (es : List (String Global × Value)) → length (entries (members_view es)) ≡ length es
length-view [] = refl
length-view (e ∷ es) = ap suc (length-view es)

-- what is found where each value is changed
found : (f : Data → Data) (o : Ordering) (d : Data) (a b : Option Data) → a ≡ option_map f b → match_ordering o a (Some (f d)) a ≡ option_map f (match_ordering o b (Some d) b)
found f Less d a b e = e
found f Equal d a b e = refl
found f Greater d a b e = e

pub get-each : (f : Data → Data) (k : List ℕ) (ms : Members) → get_member k (each_value f ms) ≡ option_map f (get_member k ms)
get-each f k no_members = refl
get-each f k (member l d ms) = found f (slice_cmp nat_cmp k l) d _ _ (get-each f k ms)

-- a choice that gives something
pub taken : (test : Bool) (o : Option (List Entry)) (es : List Entry) → cond test o None ≡ Some es → o ≡ Some es
taken true o es h = h
taken false o es h = absurd (cc h)

count_at : (d : Data) (inner : Members) (es : List Entry) → as_table d ≡ Some inner → entries_at (Some (plain_entries d)) ≡ Some es → length es ≡ length (entries inner)
count_at (table ms) inner es is at =
    let same : ms ≡ inner = cc is in
    let all : entries (each_value plain_entry ms) ≡ es = cc at in
    ap length (sym all) ∙ length-each plain_entry ms ∙ ap (λ m. length (entries m)) same
count_at (string s) inner es is at = absurd (cc is)
count_at (integer z) inner es is at = absurd (cc is)
count_at (float x) inner es is at = absurd (cc is)
count_at (boolean b) inner es is at = absurd (cc is)
count_at (datetime t) inner es is at = absurd (cc is)
count_at (array ds) inner es is at = absurd (cc is)

-- a table has as many entries as there are cells in it without the keys
pub as_many : (ms inner : Members) (d : Data) (cells : List (List ℕ × Cell)) → AreInTable (plain_document ms) cells → get_member (codes "cell") ms ≡ Some d → as_table d ≡ Some inner → length (entries inner) ≡ length cells
as_many ms inner d cells h at is =
    let listed : entries_at (get_member (codes "cell") (plain_document ms)) ≡ Some h.list = taken (has_only (codes "cell" ∷ []) (plain_document ms)) _ h.list h.are_described.is_list in
    let there : entries_at (Some (plain_entries d)) ≡ Some h.list = ap entries_at (ap (option_map plain_entries) (sym at) ∙ sym (get-each plain_entries (codes "cell") ms)) ∙ listed in
    sym (count_at d inner h.list is there) ∙ length-AreRead h.list cells h.read

-- at first no entry has its cell
module _ {A : Type 0} (f : A → Data × Cell) (pairs : List A) (es left : List (String Global × Value)) (cells : List (List ℕ × Cell)) where
  pub start : pairs ≡ [] → left ≡ es → length (entries (members_view es)) ≡ length cells →
      (with_cells (entries (members_view es)) cells ≡ map f pairs ++ with_cells (entries (members_view left)) (drop (length pairs) cells)) × (length pairs + length left ≡ length cells)
  start none all many = rw (none, all) (refl, omega (arith, length-view es, many))
