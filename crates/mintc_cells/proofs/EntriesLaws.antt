-- Entries read one after the other.
use Rattle.std.proofs.Common.{◌≡◌, ℕ, suc, ◌+◌, List, [], ◌∷◌, ◌++◌, length, String, Global, string_bytes, Ok, Err, Result, Some, None, true, MatchResult, codes, refl, sym, ap, ◌∙◌, subst, append_assoc, append-nil, arith, map, ◌<◌, ◌^◌, Less, nat_cmp}
use Rattle.std.specs.List.{AllByRecursion}
use Rattle.std.specs.List.Sorted.{IsStrictlySortedBy}
use Rattle.std.specs.Map.{keys_of}
use Rattle.std.specs.String.{string_cmp}
use Rattle.std.specs.Cmp.Lexicographic.{slice_cmp}
use Rattle.mintc_cells.specs.Entries.{AreAscending, AreOrdered}
use Rattle.toml.specs.declared.value.Value.{Value}
use Rattle.toml.specs.View.{view, members_view}
use Rattle.mintc_cells.specs.declared.cell.Cell.{Cell}
use Rattle.mintc_text.specs.declared.refusals.Stop.{Stop}
use Rattle.mintc_text.specs.declared.refusals.Stop.TheVariants as stop
use Rattle.mintc_text.specs.declared.refusals.Refusal.TheVariants as refusal
use Rattle.toml.specs.Data.{Data, Members, get_member, as_table}
use Rattle.mintc_cells.specs.declared.shape.Fault.{Fault}
use Rattle.mintc_cells.specs.declared.shape.Fault.TheVariants as fault
use Rattle.mintc_toml.specs.Lookups.{has_only}
use Rattle.mintc_cells.specs.Description.{cell_of, Reads}
use Rattle.mintc_text.specs.Stops.{StopsAt}
use Rattle.mintc_cells.specs.CellsOf.{Entry, entries, IsReadAs, AreRead, AreInTable, IsFirstBad, described, IsBadCellBy}
use Rattle.mintc_cells.proofs.SharedKeptLaws.{kept, names-AreRead}

-- one more entry that was read
pub AreRead-push : (es : List Entry) (cells : List (List ℕ × Cell)) (e : Entry) (cell : List ℕ × Cell) → AreRead es cells → IsReadAs e cell → AreRead (es ++ e ∷ []) (cells ++ cell ∷ [])
AreRead-push [] [] e cell h g = (g, tt)
AreRead-push [] (c ∷ cells) e cell h g = absurd h
AreRead-push (x ∷ es) [] e cell h g = absurd h
AreRead-push (x ∷ es) (c ∷ cells) e cell h g = (h.0, AreRead-push es cells e cell h.1 g)

pub length-AreRead : (es : List Entry) (cells : List (List ℕ × Cell)) → AreRead es cells → length es ≡ length cells
length-AreRead [] [] h = refl
length-AreRead [] (c ∷ cells) h = absurd h
length-AreRead (x ∷ es) [] h = absurd h
length-AreRead (x ∷ es) (c ∷ cells) h = ap suc (length-AreRead es cells h.1)

-- the entries of a table that are read, and those that are left
pub record AreSplit (table left : List (String Global × Value)) (done : List Entry) (cells : List (List ℕ × Cell)) : Type 0 where
  pub whole : entries (members_view table) ≡ done ++ entries (members_view left)
  pub read : AreRead done cells

-- the next entry is read
pub next_read : (table left rest : List (String Global × Value)) (done : List Entry) (cells : List (List ℕ × Cell)) (e : String Global × Value) (cell : List ℕ × Cell) →
    AreSplit table left done cells → left ≡ e ∷ rest → IsReadAs (string_bytes e.0, view e.1) cell → AreSplit table rest (done ++ (string_bytes e.0, view e.1) ∷ []) (cells ++ cell ∷ [])
next_read table left rest done cells e cell split next reads = record {
  whole = split.whole ∙ ap (λ es. done ++ entries (members_view es)) next ∙ sym (append_assoc done ((string_bytes e.0, view e.1) ∷ []) (entries (members_view rest)));
  read = AreRead-push done cells (string_bytes e.0, view e.1) cell split.read reads;
}

-- the next entry is the first that is bad
pub next_bad : (table left rest : List (String Global × Value)) (done : List Entry) (cells : List (List ℕ × Cell)) (e : String Global × Value) (n rule : ℕ) →
    AreSplit table left done cells → left ≡ e ∷ rest → cell_of (string_bytes e.0) (view e.1) ≡ Err rule → n ≡ length cells + 1 → IsFirstBad (entries (members_view table)) n rule
next_bad table left rest done cells e n rule split next fails count = record {
  before = done;
  cells = cells;
  bad = (string_bytes e.0, view e.1);
  after = entries (members_view rest);
  whole = split.whole ∙ ap (λ es. done ++ entries (members_view es)) next;
  read = split.read;
  fails = fails;
  count = omega (arith, count, length-AreRead done cells split.read);
}

-- at first all entries are left
pub start : (table left : List (String Global × Value)) (cells : List (List ℕ × Cell)) → left ≡ table → cells ≡ [] → AreSplit table left [] cells
start table left cells same none = record { whole = ap (λ es. entries (members_view es)) (sym same); read = rw none tt }

-- the rule of a fault that is one
pub rule_of : (reading : Result Cell ℕ) (f : Fault) (rule : ℕ) → Reads reading (Err f) → f ≡ fault.Rule rule → reading ≡ Err rule
rule_of reading f rule reads same = subst (λ (g : Fault). Reads reading (Err g)) same reads

-- the entries of a document whose table `cell` is there
pub described_at : (ms inner : Members) (d : Data) → has_only (codes "cell" ∷ []) ms ≡ true → get_member (codes "cell") ms ≡ Some d → as_table d ≡ Some inner → described ms ≡ Some (entries inner)
described_at ms inner d known at is_table = rw (known, at, is_table)

-- a call that gives what one thing asks gives what another asks, where the other follows
pub carried : {V : Type 0} (r : Result V Stop) (P P' : V → Type 0) (Q Q' : ℕ → ℕ → Type 0) → ((v : V) → P v → P' v) → ((n rule : ℕ) → Q n rule → Q' n rule) →
    MatchResult r P (StopsAt (IsBadCellBy Q)) → MatchResult r P' (StopsAt (IsBadCellBy Q'))
carried (Ok v) P P' Q Q' f g h = f v h
carried (Err (stop.Refused (refusal.BadCell n rule))) P P' Q Q' f g h = g n rule h
carried (Err (stop.Refused _)) P P' Q Q' f g h = absurd h
carried (Err stop.OutOfMemory) P P' Q Q' f g h = tt

-- a stop passed on, at what follows from what it was at
pub passed_on : {V : Type 0} (r : Result V Stop) (e : Stop) (P : V → Type 0) (Q Q' : ℕ → ℕ → Type 0) → r ≡ Err e → ((n rule : ℕ) → Q n rule → Q' n rule) →
    StopsAt (IsBadCellBy Q) e → MatchResult r P (StopsAt (IsBadCellBy Q'))
passed_on r e P Q Q' same g h = subst (λ x. MatchResult x P (StopsAt (IsBadCellBy Q'))) (sym same) (carried (Err e) P P Q Q' (λ v p. p) g h)

-- keys in order have names in byte order
all_below : (k : String Global) (ks : List (String Global)) → AllByRecursion (λ y. string_cmp k y ≡ Less) ks → AllByRecursion (λ y. slice_cmp nat_cmp (string_bytes k) y ≡ Less) (map string_bytes ks)
all_below k [] h = tt
all_below k (x ∷ ks) h = (h.0, all_below k ks h.1)

ascending_bytes : (ks : List (String Global)) → IsStrictlySortedBy string_cmp ks → AreAscending (map string_bytes ks)
unfolding IsStrictlySortedBy
ascending_bytes [] h = tt
ascending_bytes (k ∷ ks) h = (all_below k ks h.0, ascending_bytes ks h.1)

names-entries : (table : List (String Global × Value)) → map (λ (e : Entry). e.0) (entries (members_view table)) ≡ map string_bytes (keys_of table)
names-entries [] = refl
names-entries (e ∷ table) = ap (λ ns. string_bytes e.0 ∷ ns) (names-entries table)

-- the entries of a table ascend
pub ascending : (table : List (String Global × Value)) → IsStrictlySortedBy string_cmp (keys_of table) → AreAscending (map (λ (e : Entry). e.0) (entries (members_view table)))
ascending table sorted = subst AreAscending (sym (names-entries table)) (ascending_bytes (keys_of table) sorted)

-- all entries are read
pub all_read : (table left : List (String Global × Value)) (done : List Entry) (cells : List (List ℕ × Cell)) → AreSplit table left done cells → left ≡ [] → AreRead (entries (members_view table)) cells
all_read table left done cells split none =
    let all : entries (members_view table) ≡ done = split.whole ∙ ap (λ es. done ++ entries (members_view es)) none ∙ append-nil done in
    subst (λ (es : List Entry). AreRead es cells) (sym all) split.read

-- entries that are read make cells in order, which keep their rules
pub ordered : (es : List Entry) (cells : List (List ℕ × Cell)) → AreRead es cells → AreAscending (map (λ (e : Entry). e.0) es) → length cells < 2 ^ 32 → AreOrdered cells
ordered es cells read rising small = record {
  few = small;
  ascending = subst AreAscending (sym (names-AreRead es cells read)) rising;
  each = kept es cells read;
}

-- no cells
pub nothing_ascends : AreAscending []
unfolding IsStrictlySortedBy
nothing_ascends = tt

nothing_read : AreRead [] []
nothing_read = tt

pub nothing_ordered : (cells : List (List ℕ × Cell)) → cells ≡ [] → AreOrdered cells
nothing_ordered cells none = subst (λ (v : List (List ℕ × Cell)). AreOrdered v) (sym none) (ordered [] [] nothing_read nothing_ascends (omega arith))

-- a document without the table
pub nothing_described : (ms : Members) (cells : List (List ℕ × Cell)) → has_only (codes "cell" ∷ []) ms ≡ true → get_member (codes "cell") ms ≡ None → cells ≡ [] → AreInTable ms cells
nothing_described ms cells known absent none = subst (λ (v : List (List ℕ × Cell)). AreInTable ms v) (sym none) (record {
  list = [];
  are_described = record { is_list = rw (known, absent) refl; ascending = nothing_ascends };
  read = nothing_read;
})
