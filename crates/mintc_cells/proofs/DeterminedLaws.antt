-- A text gives one list of cells or one refusal.
use Rattle.std.proofs.Common.{◌≡◌, ℕ, ◌+◌, List, [], ◌∷◌, ◌++◌, length, Ok, Err, Result, Option, Some, None, refl, sym, ap, ◌∙◌, subst, arith}
use Rattle.toml.specs.Data.{Members}
use Rattle.mintc_toml.specs.Documents.{IsDocument}
use Rattle.mintc_cells.specs.declared.cell.Cell.{Cell}
use Rattle.mintc_cells.specs.Description.{cell_of}
use Rattle.mintc_cells.specs.Entries.{AreAscending}
use Rattle.mintc_cells.specs.CellsOf.{Entry, IsReadAs, AreRead, AreDescribed, IsFirstBad, AreInTable, IsBadTable, no_table, bad_entry, no_document, bad_table}
use Rattle.mintc_cells.specs.Laws.{CellsAreDetermined, CellsAreNotRefused, BadCellsAreDetermined, CellsKeepRules}
use Rattle.mintc_cells.proofs.SharedKeptLaws.{kept, names-AreRead}

-- the number, counted on from n, and the rule of the first entry that stands for no cell
bad_here : Result Cell ℕ → ℕ → Option (ℕ × ℕ) → Option (ℕ × ℕ)
bad_here (Ok cell) n later = later
bad_here (Err rule) n later = Some (n, rule)

first_bad : ℕ → List Entry → Option (ℕ × ℕ)
first_bad n [] = None
first_bad n (e ∷ es) = bad_here (cell_of e.0 e.1) n (first_bad (n + 1) es)

none_bad : (n : ℕ) (es : List Entry) (cells : List (List ℕ × Cell)) → AreRead es cells → first_bad n es ≡ None
unfolding first_bad bad_here
none_bad n [] cells h = refl
none_bad n (e ∷ es) [] h = absurd h
none_bad n (e ∷ es) (c ∷ cells) h = ap (λ (r : Result Cell ℕ). bad_here r n (first_bad (n + 1) es)) h.0.1 ∙ none_bad (n + 1) es cells h.1

bad_after : (n : ℕ) (before : List Entry) (cells : List (List ℕ × Cell)) (bad : Entry) (after : List Entry) (rule : ℕ) → AreRead before cells → cell_of bad.0 bad.1 ≡ Err rule →
    first_bad n (before ++ bad ∷ after) ≡ Some (n + length before, rule)
unfolding first_bad bad_here
bad_after n [] cells bad after rule h fails =
    ap (λ (r : Result Cell ℕ). bad_here r n (first_bad (n + 1) after)) fails ∙ ap (λ (m : ℕ). Some (m, rule)) (omega arith)
bad_after n (e ∷ before) [] bad after rule h fails = absurd h
bad_after n (e ∷ before) (c ∷ cells) bad after rule h fails =
    ap (λ (r : Result Cell ℕ). bad_here r n (first_bad (n + 1) (before ++ bad ∷ after))) h.0.1 ∙ bad_after (n + 1) before cells bad after rule h.1 fails
    ∙ ap (λ (m : ℕ). Some (m, rule)) (omega arith)

is_first : (es : List Entry) (n rule : ℕ) → IsFirstBad es n rule → first_bad 1 es ≡ Some (n, rule)
is_first es n rule h =
    ap (first_bad 1) h.whole ∙ bad_after 1 h.before h.cells h.bad h.after rule h.read h.fails ∙ ap (λ (m : ℕ). Some (m, rule)) (omega (arith, h.count))

same_some : {A : Type 0} (a b : A) → Some a ≡ Some b → a ≡ b
same_some a b e = cc

some_is_none : {A : Type 0} (a : A) → Some a ≡ None → ⊥
some_is_none a e = cc

same_pair : (a b : ℕ × ℕ) → a ≡ b → (a.0 ≡ b.0) × (a.1 ≡ b.1)
same_pair a b e = (ap (λ (p : ℕ × ℕ). p.0) e, ap (λ (p : ℕ × ℕ). p.1) e)

-- one document
one_document : (text : List ℕ) (ms other : Members) → IsDocument text ms → IsDocument text other → ms ≡ other
one_document text ms other h g = same_some ms other (sym h.1 ∙ g.1)

-- one list of entries
one_list : (ms : Members) (es other : List Entry) → AreDescribed ms es → AreDescribed ms other → es ≡ other
one_list ms es other h g = same_some es other (sym h.is_list ∙ g.is_list)

same_reading : (r : Result Cell ℕ) (a b : Cell) → r ≡ Ok a → r ≡ Ok b → a ≡ b
same_reading r a b h g = cc

one_cell : (e : Entry) (a b : List ℕ × Cell) → IsReadAs e a → IsReadAs e b → a ≡ b
one_cell e a b h g =
    let name : a.0 ≡ b.0 = h.0 ∙ sym g.0 in
    let cell : a.1 ≡ b.1 = same_reading (cell_of e.0 e.1) a.1 b.1 h.1 g.1 in
    ap (λ (n : List ℕ). (n, a.1)) name ∙ ap (λ (c : Cell). (b.0, c)) cell

one_reading : (es : List Entry) (a b : List (List ℕ × Cell)) → AreRead es a → AreRead es b → a ≡ b
one_reading [] [] [] h g = refl
one_reading [] [] (c ∷ b) h g = absurd g
one_reading [] (c ∷ a) b h g = absurd h
one_reading (e ∷ es) [] b h g = absurd h
one_reading (e ∷ es) (c ∷ a) [] h g = absurd g
one_reading (e ∷ es) (c ∷ a) (d ∷ b) h g = ap (λ (x : List ℕ × Cell). x ∷ a) (one_cell e c d h.0 g.0) ∙ ap (λ (xs : List (List ℕ × Cell)). d ∷ xs) (one_reading es a b h.1 g.1)

in_one_table : (ms : Members) (a b : List (List ℕ × Cell)) → AreInTable ms a → AreInTable ms b → a ≡ b
in_one_table ms a b h g = one_reading g.list a b (subst (λ (es : List Entry). AreRead es a) (one_list ms h.list g.list h.are_described g.are_described) h.read) g.read

pub cells_are_determined : CellsAreDetermined
cells_are_determined text a b h g = in_one_table g.0 a b (subst (λ (ms : Members). AreInTable ms a) (one_document text h.0 g.0 h.1 g.1) h.2) g.2

not_both : (ms : Members) (cells : List (List ℕ × Cell)) (n rule : ℕ) → AreInTable ms cells → IsBadTable ms n rule → ⊥
not_both ms cells n rule h (no_table none zeroth first) = some_is_none h.list (sym h.are_described.is_list ∙ none)
not_both ms cells n rule h (bad_entry es are first) =
    let one : h.list ≡ es = one_list ms h.list es h.are_described are in
    some_is_none (n, rule) (sym (is_first es n rule first) ∙ none_bad 1 es cells (subst (λ (es : List Entry). AreRead es cells) one h.read))

pub cells_are_not_refused : CellsAreNotRefused
cells_are_not_refused text cells n rule h (no_document none zeroth first) = none h.0 h.1
cells_are_not_refused text cells n rule h (bad_table ms is bad) =
    not_both ms cells n rule (subst (λ (ms : Members). AreInTable ms cells) (one_document text h.0 ms h.1 is) h.2) bad

one_table_fault : (ms : Members) (n rule m other : ℕ) → IsBadTable ms n rule → IsBadTable ms m other → (n ≡ m) × (rule ≡ other)
one_table_fault ms n rule m other (no_table none a b) (no_table also c d) = (a ∙ sym c, b ∙ sym d)
one_table_fault ms n rule m other (no_table none a b) (bad_entry es are first) = absurd (some_is_none es (sym are.is_list ∙ none))
one_table_fault ms n rule m other (bad_entry es are first) (no_table none a b) = absurd (some_is_none es (sym are.is_list ∙ none))
one_table_fault ms n rule m other (bad_entry es are first) (bad_entry es' are' first') =
    let one : es ≡ es' = one_list ms es es' are are' in
    same_pair (n, rule) (m, other) (same_some _ _ (sym (is_first es n rule first) ∙ ap (first_bad 1) one ∙ is_first es' m other first'))

pub bad_cells_are_determined : BadCellsAreDetermined
bad_cells_are_determined text n rule m other (no_document none a b) (no_document also c d) = (a ∙ sym c, b ∙ sym d)
bad_cells_are_determined text n rule m other (no_document none a b) (bad_table ms is bad) = absurd (none ms is)
bad_cells_are_determined text n rule m other (bad_table ms is bad) (no_document none a b) = absurd (none ms is)
bad_cells_are_determined text n rule m other (bad_table ms is bad) (bad_table ms' is' bad') =
    one_table_fault ms' n rule m other (subst (λ (ms : Members). IsBadTable ms n rule) (one_document text ms ms' is is') bad) bad'

pub cells_keep_rules : CellsKeepRules
cells_keep_rules text cells h =
    let table = h.2 in
    (subst AreAscending (sym (names-AreRead table.list cells table.read)) table.are_described.ascending, kept table.list cells table.read)
