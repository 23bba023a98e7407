-- A text gives one list of cells and their senses, or one refusal.
use Rattle.std.proofs.Common.{◌≡◌, ℕ, ◌+◌, List, [], ◌∷◌, ◌++◌, length, Ok, Err, Result, Option, Some, None, refl, sym, ap, ◌∙◌, subst, arith}
use Rattle.toml.specs.Data.{Members}
use Rattle.mintc_toml.specs.Documents.{IsDocument}
use Rattle.mintc_cells.specs.declared.cell.Cell.{Cell}
use Rattle.mintc_cells.specs.Description.{cell_of}
use Rattle.mintc_cells.specs.CellsOf.{Entry, IsReadAs, AreRead, AreDescribed, IsFirstBad, AreInTable, IsBadTable, no_table, bad_entry}
use Rattle.mintcx_sense_keys.specs.Plain.{plain_document}
use Rattle.mintcx_sense_keys.specs.SensedCells.{ArePlainCells, IsBadPlainCell, no_document, bad_table, bad_cell, unfit, first_unfit}
use Rattle.mintcx_sense_keys.specs.Laws.{PlainCellsAreDetermined, SensedCellsAreNotRefused, BadSensedCellsAreDetermined}
use Rattle.mintcx_sense_keys.proofs.EntryLaws.{one_document}

-- the number, counted on from n, and the rule of the first entry that stands for no cell
bad_here : Result Cell ℕ → ℕ → Option (ℕ × ℕ) → Option (ℕ × ℕ)
bad_here (Ok cell) n later = later
bad_here (Err rule) n later = Some (n, rule)

first_bad : ℕ → List Entry → Option (ℕ × ℕ)
first_bad n [] = None
first_bad n (e ∷ es) = bad_here (cell_of e.0 e.1) n (first_bad (n + 1) es)

none_bad : (n : ℕ) (es : List Entry) (cells : List (List ℕ × Cell)) → AreRead es cells → first_bad n es ≡ None
unfolding first_bad bad_here
none_bad n [] cells h = refl
none_bad n (e ∷ es) [] h = absurd h
none_bad n (e ∷ es) (c ∷ cells) h = ap (λ (r : Result Cell ℕ). bad_here r n (first_bad (n + 1) es)) h.0.1 ∙ none_bad (n + 1) es cells h.1

bad_after : (n : ℕ) (before : List Entry) (cells : List (List ℕ × Cell)) (bad : Entry) (after : List Entry) (rule : ℕ) → AreRead before cells → cell_of bad.0 bad.1 ≡ Err rule →
    first_bad n (before ++ bad ∷ after) ≡ Some (n + length before, rule)
unfolding first_bad bad_here
bad_after n [] cells bad after rule h fails =
    ap (λ (r : Result Cell ℕ). bad_here r n (first_bad (n + 1) after)) fails ∙ ap (λ (m : ℕ). Some (m, rule)) (omega arith)
bad_after n (e ∷ before) [] bad after rule h fails = absurd h
bad_after n (e ∷ before) (c ∷ cells) bad after rule h fails =
    ap (λ (r : Result Cell ℕ). bad_here r n (first_bad (n + 1) (before ++ bad ∷ after))) h.0.1 ∙ bad_after (n + 1) before cells bad after rule h.1 fails
    ∙ ap (λ (m : ℕ). Some (m, rule)) (omega arith)

is_first : (es : List Entry) (n rule : ℕ) → IsFirstBad es n rule → first_bad 1 es ≡ Some (n, rule)
is_first es n rule h =
    ap (first_bad 1) h.whole ∙ bad_after 1 h.before h.cells h.bad h.after rule h.read h.fails ∙ ap (λ (m : ℕ). Some (m, rule)) (omega (arith, h.count))

same_some : {A : Type 0} (a b : A) → Some a ≡ Some b → a ≡ b
same_some a b e = cc

some_is_none : {A : Type 0} (a : A) → Some a ≡ None → ⊥
some_is_none a e = cc

same_pair : (a b : ℕ × ℕ) → a ≡ b → (a.0 ≡ b.0) × (a.1 ≡ b.1)
same_pair a b e = (ap (λ (p : ℕ × ℕ). p.0) e, ap (λ (p : ℕ × ℕ). p.1) e)

one_list : (ms : Members) (es other : List Entry) → AreDescribed ms es → AreDescribed ms other → es ≡ other
one_list ms es other h g = same_some es other (sym h.is_list ∙ g.is_list)

same_reading : (r : Result Cell ℕ) (a b : Cell) → r ≡ Ok a → r ≡ Ok b → a ≡ b
same_reading r a b h g = cc

one_cell : (e : Entry) (a b : List ℕ × Cell) → IsReadAs e a → IsReadAs e b → a ≡ b
one_cell e a b h g =
    let name : a.0 ≡ b.0 = h.0 ∙ sym g.0 in
    let cell : a.1 ≡ b.1 = same_reading (cell_of e.0 e.1) a.1 b.1 h.1 g.1 in
    ap (λ (n : List ℕ). (n, a.1)) name ∙ ap (λ (c : Cell). (b.0, c)) cell

one_reading : (es : List Entry) (a b : List (List ℕ × Cell)) → AreRead es a → AreRead es b → a ≡ b
one_reading [] [] [] h g = refl
one_reading [] [] (c ∷ b) h g = absurd g
one_reading [] (c ∷ a) b h g = absurd h
one_reading (e ∷ es) [] b h g = absurd h
one_reading (e ∷ es) (c ∷ a) [] h g = absurd g
one_reading (e ∷ es) (c ∷ a) (d ∷ b) h g = ap (λ (x : List ℕ × Cell). x ∷ a) (one_cell e c d h.0 g.0) ∙ ap (λ (xs : List (List ℕ × Cell)). d ∷ xs) (one_reading es a b h.1 g.1)

-- a table gives one list of cells or one refusal
in_one_table : (ms : Members) (a b : List (List ℕ × Cell)) → AreInTable ms a → AreInTable ms b → a ≡ b
in_one_table ms a b h g = one_reading g.list a b (subst (λ (es : List Entry). AreRead es a) (one_list ms h.list g.list h.are_described g.are_described) h.read) g.read

not_both : (ms : Members) (cells : List (List ℕ × Cell)) (n rule : ℕ) → AreInTable ms cells → IsBadTable ms n rule → ⊥
not_both ms cells n rule h (no_table none zeroth first) = some_is_none h.list (sym h.are_described.is_list ∙ none)
not_both ms cells n rule h (bad_entry es are first) =
    let one : h.list ≡ es = one_list ms h.list es h.are_described are in
    some_is_none (n, rule) (sym (is_first es n rule first) ∙ none_bad 1 es cells (subst (λ (es : List Entry). AreRead es cells) one h.read))

one_table_fault : (ms : Members) (n rule m other : ℕ) → IsBadTable ms n rule → IsBadTable ms m other → (n ≡ m) × (rule ≡ other)
one_table_fault ms n rule m other (no_table none a b) (no_table also c d) = (a ∙ sym c, b ∙ sym d)
one_table_fault ms n rule m other (no_table none a b) (bad_entry es are first) = absurd (some_is_none es (sym are.is_list ∙ none))
one_table_fault ms n rule m other (bad_entry es are first) (no_table none a b) = absurd (some_is_none es (sym are.is_list ∙ none))
one_table_fault ms n rule m other (bad_entry es are first) (bad_entry es' are' first') =
    let one : es ≡ es' = one_list ms es es' are are' in
    same_pair (n, rule) (m, other) (same_some _ _ (sym (is_first es n rule first) ∙ ap (first_bad 1) one ∙ is_first es' m other first'))

-- ---- the same of a text without the keys

in_plain : (text : List ℕ) (ms : Members) (cells : List (List ℕ × Cell)) (h : ArePlainCells text cells) → IsDocument text ms → AreInTable (plain_document ms) cells
in_plain text ms cells h is = subst (λ (m : Members). AreInTable (plain_document m) cells) (one_document text h.document ms h.is_document is) h.read

pub plain_cells_are_determined_lem : PlainCellsAreDetermined
plain_cells_are_determined_lem text a b h g = in_one_table (plain_document g.document) a b (in_plain text g.document a h g.is_document) g.read

not_both_plain : (text : List ℕ) (cells : List (List ℕ × Cell)) (n rule : ℕ) → ArePlainCells text cells → IsBadPlainCell text n rule → ⊥
not_both_plain text cells n rule h (no_document none zeroth first) = none h.document h.is_document
not_both_plain text cells n rule h (bad_table ms is bad) = not_both (plain_document ms) cells n rule (in_plain text ms cells h is) bad

one_plain_fault : (text : List ℕ) (n rule m other : ℕ) → IsBadPlainCell text n rule → IsBadPlainCell text m other → (n ≡ m) × (rule ≡ other)
one_plain_fault text n rule m other (no_document none a b) (no_document also c d) = (a ∙ sym c, b ∙ sym d)
one_plain_fault text n rule m other (no_document none a b) (bad_table ms is bad) = absurd (none ms is)
one_plain_fault text n rule m other (bad_table ms is bad) (no_document none a b) = absurd (none ms is)
one_plain_fault text n rule m other (bad_table ms is bad) (bad_table ms' is' bad') =
    one_table_fault (plain_document ms') n rule m other (subst (λ (m : Members). IsBadTable (plain_document m) n rule) (one_document text ms ms' is is') bad) bad'

-- ---- with rule 9

-- two readings of a text have the same first entry that fails rule 9
same_unfit : (text : List ℕ) (a b : List (List ℕ × Cell)) (h : ArePlainCells text a) (g : ArePlainCells text b) → first_unfit h.document a ≡ first_unfit g.document b
same_unfit text a b h g =
    ap (λ (m : Members). first_unfit m a) (one_document text h.document g.document h.is_document g.is_document) ∙ ap (first_unfit g.document) (plain_cells_are_determined_lem text a b h g)

pub sensed_cells_are_not_refused_lem : SensedCellsAreNotRefused
sensed_cells_are_not_refused_lem text cells n rule h (bad_cell bad) = not_both_plain text cells n rule h.plain bad
sensed_cells_are_not_refused_lem text cells n rule h (unfit others plain at ninth) = some_is_none n (sym at ∙ same_unfit text others cells plain h.plain ∙ h.fit)

pub bad_sensed_cells_are_determined_lem : BadSensedCellsAreDetermined
bad_sensed_cells_are_determined_lem text n rule m other (bad_cell a) (bad_cell b) = one_plain_fault text n rule m other a b
bad_sensed_cells_are_determined_lem text n rule m other (bad_cell a) (unfit cells plain at ninth) = absurd (not_both_plain text cells n rule plain a)
bad_sensed_cells_are_determined_lem text n rule m other (unfit cells plain at ninth) (bad_cell b) = absurd (not_both_plain text cells m other plain b)
bad_sensed_cells_are_determined_lem text n rule m other (unfit cells plain at ninth) (unfit others also there nine) =
    (same_some n m (sym at ∙ same_unfit text cells others plain also ∙ there), ninth ∙ sym nine)
