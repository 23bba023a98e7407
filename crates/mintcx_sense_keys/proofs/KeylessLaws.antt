-- A text without the keys is read as it is where they aren't read.
use Rattle.std.proofs.Common.{◌≡◌, ℕ, zero, suc, ◌+◌, Bool, true, false, not, ◌&&◌, cond, List, [], ◌∷◌, map, get_or, Option, Some, None, is_some, option_map, unwrap_or, refl, sym, ap, ◌∙◌, subst, Ordering, Less, Equal, Greater, nat_cmp, is_eq, codes}
use Rattle.std.specs.List.{list_all}
use Rattle.std.specs.Cmp.Lexicographic.{slice_cmp}
use Rattle.std.specs.Ordering.{match_ordering}
use Rattle.std.proofs.lemmas.Bool.{and_parts}
use Rattle.toml.specs.Data.{Data, string, integer, float, boolean, datetime, array, table, Members, no_members, member, get_member}
use Rattle.mintc_toml.specs.Documents.{IsDocument}
use Rattle.mintc_toml.specs.Lookups.{has_only, texts_in, are_texts_in}
use Rattle.mintc_cells.specs.declared.cell.Cell.{Cell}
use Rattle.mintc_cells.specs.Rules.{inputs_of, outputs_of}
use Rattle.mintc_cells.specs.CellsOf.{Entry, entries, entries_at, described, AreInTable, IsBadTable, no_table, bad_entry, IsBadCell, no_document as no_text, bad_table as bad_text}
use Rattle.mintc_senses_expressions.specs.declared.transitions.Transitions.{Transitions}
use Rattle.mintc_senses_expressions.specs.Transitions.{all_transitions}
use Rattle.mintcx_sense_keys.specs.Plain.{is_clock, without, plain_table, plain_entry, plain_entries, plain_document, each_value}
use Rattle.mintcx_sense_keys.specs.Senses.{table_in, keeps_nine, senses_said, are_fit, pair_sense, cell_senses}
use Rattle.mintcx_sense_keys.specs.declared.naming.Keys.{Keys}
use Rattle.mintcx_sense_keys.specs.SensedCells.{entries_in, with_cells, first_failing, senses_in, IsBadPlainCell, no_document, bad_table, IsBadSensedCell, bad_cell, unfit}
use Rattle.mintcx_sense_keys.specs.Laws.{has_neither, IsKeyless, KeylessTextsArePlain}
use Rattle.mintcx_sense_keys.proofs.EntryLaws.{one_document, get-each}

-- ---- the document stays

step : (o : Ordering) (at : Option Data) (l : List ℕ) (d : Data) (ms rest : Members) → match_ordering o at (Some d) at ≡ None → (at ≡ None → rest ≡ ms) → cond (is_eq o) ms (member l d rest) ≡ member l d ms
step Less at l d ms rest none f = ap (member l d) (f none)
step Equal at l d ms rest none f = absurd (cc none)
step Greater at l d ms rest none f = ap (member l d) (f none)

-- a table without a key that it doesn't have
without-none : (k : List ℕ) (ms : Members) → get_member k ms ≡ None → without k ms ≡ ms
without-none k no_members none = refl
without-none k (member l d ms) none = step (slice_cmp nat_cmp k l) (get_member k ms) l d ms (without k ms) none (without-none k ms)

absent : (o : Option Data) → not (is_some o) ≡ true → o ≡ None
absent None h = refl
absent (Some d) h = absurd (cc h)

neither : (ms : Members) → has_neither ms ≡ true → (get_member (codes "positive") ms ≡ None) × (get_member (codes "negative") ms ≡ None)
neither ms h =
    let parts = and_parts (not (is_some (get_member (codes "positive") ms))) (not (is_some (get_member (codes "negative") ms))) h in
    (absent (get_member (codes "positive") ms) parts.0, absent (get_member (codes "negative") ms) parts.1)

either : (test : Bool) (a b : Members) → b ≡ a → cond test a b ≡ a
either true a b e = refl
either false a b e = e

plain-table : (ms : Members) → has_neither ms ≡ true → plain_table ms ≡ ms
plain-table ms h =
    let none = neither ms h in
    either (is_clock ms) ms _ (ap (without (codes "negative")) (without-none (codes "positive") ms none.0) ∙ without-none (codes "negative") ms none.1)

plain-entry : (d : Data) → has_neither (table_in d) ≡ true → plain_entry d ≡ d
plain-entry (table ms) h = ap table (plain-table ms h)
plain-entry (string s) h = refl
plain-entry (integer z) h = refl
plain-entry (float x) h = refl
plain-entry (boolean b) h = refl
plain-entry (datetime t) h = refl
plain-entry (array ds) h = refl

-- no entry has one of the keys
abbrev AreKeyless : List Entry → Type 0
AreKeyless es = list_all (λ (e : Entry). has_neither (table_in e.1)) es ≡ true

plain-members : (ms : Members) → AreKeyless (entries ms) → each_value plain_entry ms ≡ ms
plain-members no_members h = refl
plain-members (member k d ms) h =
    let parts = and_parts (has_neither (table_in d)) (list_all (λ (e : Entry). has_neither (table_in e.1)) (entries ms)) h in
    ap (λ (x : Data). member k x (each_value plain_entry ms)) (plain-entry d parts.0) ∙ ap (member k d) (plain-members ms parts.1)

plain-at : (o : Option Data) → AreKeyless (unwrap_or (entries_at o) []) → entries_at (option_map plain_entries o) ≡ entries_at o
plain-at None h = refl
plain-at (Some (table ms)) h = ap (λ (m : Members). Some (entries m)) (plain-members ms h)
plain-at (Some (string s)) h = refl
plain-at (Some (integer z)) h = refl
plain-at (Some (float x)) h = refl
plain-at (Some (boolean b)) h = refl
plain-at (Some (datetime t)) h = refl
plain-at (Some (array ds)) h = refl

has_only-each : (keys : List (List ℕ)) (f : Data → Data) (ms : Members) → has_only keys (each_value f ms) ≡ has_only keys ms
has_only-each keys f no_members = refl
has_only-each keys f (member k d ms) = rw (has_only-each keys f ms) refl

same_described : (ms : Members) → AreKeyless (entries_in ms) → described (plain_document ms) ≡ described ms
same_described ms h =
    let at = ap entries_at (get-each plain_entries (codes "cell") ms) ∙ plain-at (get_member (codes "cell") ms) h in
    ap (λ (b : Bool). cond b (entries_at (get_member (codes "cell") (plain_document ms))) None) (has_only-each (codes "cell" ∷ []) plain_entries ms)
    ∙ ap (λ (o : Option (List Entry)). cond (has_only (codes "cell" ∷ []) ms) o None) at

-- two documents that describe the same entries
moved_cells : (ms other : Members) (cells : List (List ℕ × Cell)) → described ms ≡ described other → AreInTable ms cells → AreInTable other cells
moved_cells ms other cells same h = record {
  list = h.list;
  are_described = record { is_list = sym same ∙ h.are_described.is_list; ascending = h.are_described.ascending };
  read = h.read;
}

moved_bad : (ms other : Members) (n rule : ℕ) → described ms ≡ described other → IsBadTable ms n rule → IsBadTable other n rule
moved_bad ms other n rule same (no_table none zeroth first) = no_table (sym same ∙ none) zeroth first
moved_bad ms other n rule same (bad_entry es are first) = bad_entry es (record { is_list = sym same ∙ are.is_list; ascending = are.ascending }) first

-- ---- rule 9 is kept

all_true : {A : Type 0} (q : A → Bool) → ((x : A) → q x ≡ true) → (xs : List A) → list_all q xs ≡ true
all_true q h [] = refl
all_true q h (x ∷ xs) = rw (h x, all_true q h xs) refl

abbrev no_keys : Keys
no_keys = record { positive = []; negative = [] }

fit_none : (cell : Cell) → are_fit no_keys cell ≡ true
fit_none cell = all_true _ (λ (y : List ℕ). all_true _ (λ (a : List ℕ). refl) (inputs_of cell)) (outputs_of cell)

abbrev keys_at : Option Data → Option Data → Keys
keys_at a b = record { positive = texts_in a; negative = texts_in b }

fit_absent : (a b : Option Data) (cell : Cell) → a ≡ None → b ≡ None → ((are_texts_in true a && are_texts_in true b) && are_fit (keys_at a b) cell) ≡ true
fit_absent None None cell g h = fit_none cell
fit_absent None (Some d) cell g h = absurd (cc h)
fit_absent (Some d) b cell g h = absurd (cc g)

keeps : (d : Data) (cell : Cell) → has_neither (table_in d) ≡ true → keeps_nine (d, cell) ≡ true
keeps d cell h =
    let none = neither (table_in d) h in
    fit_absent (get_member (codes "positive") (table_in d)) (get_member (codes "negative") (table_in d)) cell none.0 none.1

none_fails : (n : ℕ) (es : List Entry) (cells : List (List ℕ × Cell)) → AreKeyless es → first_failing n (with_cells es cells) ≡ None
none_fails n [] cells h = refl
none_fails n (e ∷ es) [] h = refl
none_fails n (e ∷ es) (c ∷ cells) h =
    let parts = and_parts (has_neither (table_in e.1)) (list_all (λ (e : Entry). has_neither (table_in e.1)) es) h in
    rw (keeps e.1 c.1 parts.0) (none_fails (n + 1) es cells parts.1)

-- ---- all transitions are said

abbrev AreAll : List (List Transitions) → Type 0
AreAll rows = (output input : ℕ) → get_or (get_or rows output []) input all_transitions ≡ all_transitions

all_in_row : (f : List ℕ → Transitions) → ((a : List ℕ) → f a ≡ all_transitions) → (xs : List (List ℕ)) (input : ℕ) → get_or (map f xs) input all_transitions ≡ all_transitions
all_in_row f h [] input = refl
all_in_row f h (x ∷ xs) zero = h x
all_in_row f h (x ∷ xs) (suc input) = all_in_row f h xs input

all_in_rows : (f : List ℕ → List ℕ → Transitions) → ((a y : List ℕ) → f a y ≡ all_transitions) → (xs ys : List (List ℕ)) → AreAll (map (λ y. map (λ a. f a y) xs) ys)
all_in_rows f h xs [] output input = refl
all_in_rows f h xs (y ∷ ys) zero input = all_in_row (λ a. f a y) (λ a. h a y) xs input
all_in_rows f h xs (y ∷ ys) (suc output) input = all_in_rows f h xs ys output input

all_absent : (a b : Option Data) (cell : Cell) → a ≡ None → b ≡ None → AreAll (cell_senses (keys_at a b) cell)
all_absent None None cell g h = all_in_rows (pair_sense no_keys cell) (λ p y. refl) (inputs_of cell) (outputs_of cell)
all_absent None (Some d) cell g h = absurd (cc h)
all_absent (Some d) b cell g h = absurd (cc g)

all_said : (es : List Entry) (cells : List (List ℕ × Cell)) (cell : ℕ) → AreKeyless es → AreAll (get_or (map senses_said (with_cells es cells)) cell [])
all_said [] cells cell h output input = refl
all_said (e ∷ es) [] cell h output input = refl
all_said (e ∷ es) (c ∷ cells) zero h output input =
    let parts = and_parts (has_neither (table_in e.1)) (list_all (λ (e : Entry). has_neither (table_in e.1)) es) h in
    let none = neither (table_in e.1) parts.0 in
    all_absent (get_member (codes "positive") (table_in e.1)) (get_member (codes "negative") (table_in e.1)) c.1 none.0 none.1 output input
all_said (e ∷ es) (c ∷ cells) (suc cell) h output input =
    let parts = and_parts (has_neither (table_in e.1)) (list_all (λ (e : Entry). has_neither (table_in e.1)) es) h in
    all_said es cells cell parts.1 output input

-- ---- texts

at_document : (text : List ℕ) (ms : Members) (keyless : IsKeyless text) → IsDocument text ms → AreKeyless (entries_in ms)
at_document text ms keyless is = subst (λ (m : Members). AreKeyless (entries_in m)) (one_document text keyless.document ms keyless.is_document is) keyless.neither

bad_plain : (text : List ℕ) (n rule : ℕ) → IsKeyless text → IsBadPlainCell text n rule → IsBadCell text n rule
bad_plain text n rule keyless (no_document none zeroth first) = no_text none zeroth first
bad_plain text n rule keyless (bad_table ms is bad) = bad_text ms is (moved_bad (plain_document ms) ms n rule (same_described ms (at_document text ms keyless is)) bad)

bad_sensed : (text : List ℕ) (n rule : ℕ) → IsKeyless text → IsBadSensedCell text n rule → IsBadCell text n rule
bad_sensed text n rule keyless (bad_cell bad) = bad_plain text n rule keyless bad
bad_sensed text n rule keyless (unfit cells plain at ninth) =
    absurd (some_is_none (sym at ∙ none_fails 1 (entries_in plain.document) cells (at_document text plain.document keyless plain.is_document)))
  where
    some_is_none : Some n ≡ None → ⊥
    some_is_none e = cc

bad_told : (text : List ℕ) (n rule : ℕ) → IsKeyless text → IsBadCell text n rule → IsBadSensedCell text n rule
bad_told text n rule keyless (no_text none zeroth first) = bad_cell (no_document none zeroth first)
bad_told text n rule keyless (bad_text ms is bad) =
    bad_cell (bad_table ms is (moved_bad ms (plain_document ms) n rule (sym (same_described ms (at_document text ms keyless is))) bad))

pub keyless_lem : KeylessTextsArePlain
keyless_lem = record {
  plain = λ text cells keyless h. (
    h.document,
    h.is_document,
    moved_cells (plain_document h.document) h.document cells (same_described h.document (at_document text h.document keyless h.is_document)) h.read,
  );
  sensed = λ text cells keyless h.
      let none = at_document text h.0 keyless h.1 in
      record {
        plain = record { document = h.0; is_document = h.1; read = moved_cells h.0 (plain_document h.0) cells (sym (same_described h.0 none)) h.2 };
        fit = none_fails 1 (entries_in h.0) cells none;
      };
  bad = bad_sensed;
  refused = bad_told;
  all = λ text cells cell input output keyless.
      ap (λ (o : Option Members). get_or (get_or (get_or (senses_in (unwrap_or o no_members) cells) cell []) output []) input all_transitions) keyless.is_document.1
      ∙ all_said (entries_in keyless.document) cells cell keyless.neither output input;
}
