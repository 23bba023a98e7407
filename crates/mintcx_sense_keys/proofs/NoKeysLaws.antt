-- A cell that is read where the keys aren't read has none of them.
use Rattle.std.proofs.Common.{◌≡◌, ℕ, Bool, true, false, not, ◌&&◌, cond, List, [], ◌∷◌, Option, Some, None, unwrap_or, is_some, Ok, Err, Result, refl, sym, ap, ◌∙◌, Ordering, Less, Equal, Greater, nat_cmp, is_eq, codes, bytes_eq}
use Rattle.std.specs.List.{list_any, list_all}
use Rattle.std.specs.Cmp.Lexicographic.{slice_cmp}
use Rattle.std.specs.Ordering.{match_ordering}
use Rattle.std.proofs.lemmas.Bool.{and_parts, false≢true}
use Rattle.std.proofs.lemmas.Map.Text.{is_eq-slice_cmp}
use Rattle.std.proofs.lemmas.Slice.Eq.{bytes_eq-Decides}
use Rattle.toml.specs.Data.{Data, string, integer, float, boolean, datetime, array, table, Members, no_members, member, get_member, as_table}
use Rattle.mintc_toml.specs.Lookups.{has_only, text_in}
use Rattle.mintc_toml.specs.Rules.{is_name}
use Rattle.mintc_cells.specs.declared.cell.Cell.{Cell}
use Rattle.mintc_cells.specs.Description.{judged, read_as, read_table, gate_of, latch_of, flop_of, clock_of}
use Rattle.mintc_cells.specs.CellsOf.{Entry, entries_at, AreRead}
use Rattle.mintcx_sense_keys.specs.Senses.{table_in}
use Rattle.mintcx_sense_keys.specs.Laws.{has_neither, CellsHaveNoKeys}
use Rattle.mintcx_sense_keys.proofs.EntryLaws.{taken}

-- a test that can't pass
fails : (test : Bool) → (test ≡ true → ⊥) → test ≡ false
fails true h = absurd (h refl)
fails false h = refl

passed_over : (o : Ordering) (d : Data) (rest : Option Data) → is_eq o ≡ false → rest ≡ None → match_ordering o rest (Some d) rest ≡ None
passed_over Less d rest other none = none
passed_over Equal d rest other none = absurd (cc other)
passed_over Greater d rest other none = none

-- a key that is none of the only ones
lacks : (keys : List (List ℕ)) (k : List ℕ) (ms : Members) → list_any (bytes_eq k) keys ≡ false → has_only keys ms ≡ true → get_member k ms ≡ None
lacks keys k no_members out only = refl
lacks keys k (member l d ms) out only =
    let parts = and_parts (list_any (bytes_eq l) keys) (has_only keys ms) only in
    let differs : bytes_eq k l ≡ false = fails (bytes_eq k l)
    (λ h. false≢true (sym out ∙ ap (λ (n : List ℕ). list_any (bytes_eq n) keys) ((bytes_eq-Decides k l).0 h) ∙ parts.0)) in
    passed_over (slice_cmp nat_cmp k l) d (get_member k ms) (is_eq-slice_cmp k l ∙ differs) (lacks keys k ms out parts.1)

neither_of : (a b : Option Data) → a ≡ None → b ≡ None → (not (is_some a) && not (is_some b)) ≡ true
neither_of None None g h = refl
neither_of None (Some d) g h = absurd (cc h)
neither_of (Some d) b g h = absurd (cc g)

-- a table whose only keys are others
has_others : (keys : List (List ℕ)) (ms : Members) → list_any (bytes_eq (codes "positive")) keys ≡ false → list_any (bytes_eq (codes "negative")) keys ≡ false → has_only keys ms ≡ true → has_neither ms ≡ true
has_others keys ms one two only = neither_of (get_member (codes "positive") ms) (get_member (codes "negative") ms) (lacks keys (codes "positive") ms one only) (lacks keys (codes "negative") ms two only)

-- what a shape that fails no rule has
passes : (test : Bool) (later : Option ℕ) → cond (not test) (Some 3) later ≡ None → test ≡ true
passes true later none = refl
passes false later none = absurd (cc none)

judged_keys : (keys : Bool) (later : Option ℕ) (built cell : Cell) (least : Option ℕ) → cond (not keys) (Some 3) later ≡ least → judged built least ≡ Ok cell → keys ≡ true
judged_keys keys later built cell None none same = passes keys later none
judged_keys keys later built cell (Some rule) fails same = absurd (cc same)

-- the keys of each kind
abbrev gate_keys : List (List ℕ)
gate_keys = codes "kind" ∷ codes "inputs" ∷ codes "outputs" ∷ codes "min" ∷ codes "max" ∷ []

abbrev latch_keys : List (List ℕ)
latch_keys = codes "kind" ∷ codes "d" ∷ codes "g" ∷ codes "outputs" ∷ codes "active" ∷ codes "ignored" ∷ codes "setup" ∷ codes "hold" ∷ codes "dq_min" ∷ codes "dq_max" ∷ codes "cq_min" ∷ codes "cq_max" ∷ codes "width" ∷ []

abbrev flop_keys : List (List ℕ)
flop_keys = codes "kind" ∷ codes "d" ∷ codes "clock" ∷ codes "outputs" ∷ codes "edge" ∷ codes "ignored" ∷ codes "setup" ∷ codes "hold" ∷ codes "cq_min" ∷ codes "cq_max" ∷ codes "width" ∷ []

abbrev clock_keys : List (List ℕ)
clock_keys = codes "kind" ∷ codes "input" ∷ codes "output" ∷ codes "invert" ∷ codes "ignored" ∷ []

-- what gives a cell has neither key
abbrev Lacks : Members → Result Cell ℕ → Type 0
Lacks ms reading = (cell : Cell) → reading ≡ Ok cell → has_neither ms ≡ true

either : (ms : Members) (test : Bool) (one other : Result Cell ℕ) → Lacks ms one → Lacks ms other → Lacks ms (cond test one other)
either ms true one other f g = f
either ms false one other f g = g

none_read : (ms : Members) (rule : ℕ) → Lacks ms (Err rule)
none_read ms rule cell same = absurd (cc same)

as_lacks : (kind : List ℕ) (ms : Members) → Lacks ms (read_as kind ms)
as_lacks kind ms =
    either ms (bytes_eq kind (codes "gate")) _ _ (λ cell same. has_others gate_keys ms refl refl (judged_keys (has_only gate_keys ms) _ (gate_of ms) cell _ refl same))
    (either ms (bytes_eq kind (codes "latch")) _ _ (λ cell same. has_others latch_keys ms refl refl (judged_keys (has_only latch_keys ms) _ (latch_of ms) cell _ refl same))
    (either ms (bytes_eq kind (codes "flop")) _ _ (λ cell same. has_others flop_keys ms refl refl (judged_keys (has_only flop_keys ms) _ (flop_of ms) cell _ refl same))
    (either ms (bytes_eq kind (codes "clock")) _ _ (λ cell same. has_others clock_keys ms refl refl (judged_keys (has_only clock_keys ms) _ (clock_of ms) cell _ refl same)) (none_read ms 2))))

named : (test : Bool) (reading : Result Cell ℕ) (cell : Cell) → cond test reading (Err 2) ≡ Ok cell → reading ≡ Ok cell
named true reading cell same = same
named false reading cell same = absurd (cc same)

table_lacks : (d : Data) (cell : Cell) → read_table (as_table d) ≡ Ok cell → has_neither (table_in d) ≡ true
table_lacks (table ms) cell same = as_lacks (text_in [] (get_member (codes "kind") ms)) ms cell same
table_lacks (string s) cell same = refl
table_lacks (integer z) cell same = refl
table_lacks (float x) cell same = refl
table_lacks (boolean b) cell same = refl
table_lacks (datetime t) cell same = refl
table_lacks (array ds) cell same = refl

both : (a b : Bool) → a ≡ true → b ≡ true → (a && b) ≡ true
both a b e f = rw (e, f) refl

entries_lack : (es : List Entry) (cells : List (List ℕ × Cell)) → AreRead es cells → list_all (λ (e : Entry). has_neither (table_in e.1)) es ≡ true
entries_lack [] cells h = refl
entries_lack (e ∷ es) [] h = absurd h
entries_lack (e ∷ es) (c ∷ cells) h = both _ _ (table_lacks e.1 c.1 (named (is_name e.0) (read_table (as_table e.1)) c.1 h.0.1)) (entries_lack es cells h.1)

pub no_keys_lem : CellsHaveNoKeys
no_keys_lem text cells h =
    let list = h.2.list in
    let listed : entries_at (get_member (codes "cell") h.0) ≡ Some list = taken (has_only (codes "cell" ∷ []) h.0) _ list h.2.are_described.is_list in
    record {
      document = h.0;
      is_document = h.1;
      neither = ap (λ (o : Option (List Entry)). list_all (λ (e : Entry). has_neither (table_in e.1)) (unwrap_or o [])) listed ∙ entries_lack list cells h.2.read;
    }
