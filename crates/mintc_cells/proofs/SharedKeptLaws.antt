-- The cells that entries stand for keep their rules.
use Rattle.std.proofs.Common.{◌≡◌, ℕ, ℤ, pos, negsuc, nat_le, arith, List, [], ◌∷◌, map, Bool, true, false, not, ◌&&◌, ◌||◌, cond, bytes_eq, codes, is_some, int_le, Option, Some, None, Ok, Err, Result, refl, sym, ap, ◌∙◌, subst}
use Rattle.std.specs.List.{list_all}
use Rattle.std.proofs.lemmas.Bool.{and_parts}
use Rattle.std.proofs.lemmas.Bool.Decides.{nat_tests}
use Rattle.toml.specs.Data.{Data, Members, get_member, as_table}
use Rattle.mintc_toml.specs.Lookups.{integer_in, text_in}
use Rattle.mintc_toml.specs.Rules.{is_name}
use Rattle.mintc_cells.specs.declared.cell.Cell.{Cell}
use Rattle.mintc_cells.specs.declared.shape.Shape.{Shape}
use Rattle.mintc_cells.specs.Pins.{is_distinct}
use Rattle.mintc_cells.specs.Rules.{pins, has_names, has_limits, has_order, has_defaults, is_cell, is_same}
use Rattle.mintc_cells.specs.Entries.{names_of, is_kept, AreKept}
use Rattle.mintc_cells.specs.Description.{least_rule, judged, read_as, read_table, cell_of, gate_of, latch_of, flop_of, clock_of, gate_shape, latch_shape, flop_shape, clock_shape}
use Rattle.mintc_cells.specs.CellsOf.{Entry, AreRead}

-- a rule that doesn't fail, and those after it
passes : (test : Bool) (rule : ℕ) (later : Option ℕ) → cond (not test) (Some rule) later ≡ None → (test ≡ true) × (later ≡ None)
passes true rule later none = (refl, none)
passes false rule later none = absurd (cc)

all_true : (a b c d : Bool) → a ≡ true → b ≡ true → c ≡ true → d ≡ true → (((a && b) && c) && d) ≡ true
all_true a b c d e f g h = rw (e, f, g, h)

-- a cell that fails no rule is one
is_cell_if : (shape : Shape) (cell : Cell) → least_rule shape cell ≡ None → is_cell cell ≡ true
is_cell_if shape cell none =
    let keys = passes shape.keys 3 _ none in
    let names = passes (shape.pins && has_names cell) 4 _ keys.1 in
    let distinct = passes (is_distinct (pins cell)) 5 _ names.1 in
    let limits = passes (shape.numbers && has_limits cell) 6 _ distinct.1 in
    let order = passes (has_order cell) 7 _ limits.1 in
    all_true (has_names cell) (is_distinct (pins cell)) (has_limits cell) (has_order cell) (and_parts _ _ names.0).1 distinct.0 (and_parts _ _ limits.0).1 order.0

-- defaults are what they are the defaults of
hold_default : (d : Option Data) → (is_some d || is_same (integer_in (pos 0) d) (pos 0)) ≡ true
hold_default None = refl
hold_default (Some d) = refl

no_more : (n : ℕ) → nat_le n n ≡ true
no_more n = grind (arith, nat_tests)

itself : (z : ℤ) → int_le z z ≡ true
itself (pos n) = no_more n
itself (negsuc n) = no_more n

same_as_itself : (z : ℤ) → is_same z z ≡ true
same_as_itself z = rw (itself z) refl

cq_defaults : (low high : Option Data) (x y : ℤ) → ((is_some low || is_some high) || (is_same (integer_in x low) x && is_same (integer_in y high) y)) ≡ true
cq_defaults (Some d) high x y = refl
cq_defaults None (Some d) x y = refl
cq_defaults None None x y = rw (same_as_itself x, same_as_itself y) refl

-- a cell that its shape and its numbers let through is the one that was built, and keeps its rules
through : (built : Cell) (shape : Shape) (cell : Cell) (least : Option ℕ) → least_rule shape built ≡ least → has_defaults built ≡ true → judged built least ≡ Ok cell → (is_cell cell ≡ true) × (has_defaults cell ≡ true)
through built shape cell None none defaults same =
    let one : built ≡ cell = cc in
    (subst (λ (c : Cell). is_cell c ≡ true) one (is_cell_if shape built none), subst (λ (c : Cell). has_defaults c ≡ true) one defaults)
through built shape cell (Some rule) fails defaults same = absurd (cc)

both_true : (a b : Bool) → a ≡ true → b ≡ true → (a && b) ≡ true
both_true a b e f = rw (e, f) refl

abbrev keeps : Result Cell ℕ → Type 0
keeps reading = (cell : Cell) → reading ≡ Ok cell → (is_cell cell ≡ true) × (has_defaults cell ≡ true)

keeps_either : (test : Bool) (one other : Result Cell ℕ) → keeps one → keeps other → keeps (cond test one other)
keeps_either true one other f g = f
keeps_either false one other f g = g

fails : (rule : ℕ) → keeps (Err rule)
fails rule cell same = absurd (cc)

gate_keeps : (ms : Members) → keeps (judged (gate_of ms) (least_rule (gate_shape ms) (gate_of ms)))
gate_keeps ms cell same = through (gate_of ms) (gate_shape ms) cell _ refl refl same

clock_keeps : (ms : Members) → keeps (judged (clock_of ms) (least_rule (clock_shape ms) (clock_of ms)))
clock_keeps ms cell same = through (clock_of ms) (clock_shape ms) cell _ refl refl same

flop_keeps : (ms : Members) → keeps (judged (flop_of ms) (least_rule (flop_shape ms) (flop_of ms)))
flop_keeps ms cell same = through (flop_of ms) (flop_shape ms) cell _ refl (hold_default (get_member (codes "hold") ms)) same

latch_defaults : (ms : Members) → has_defaults (latch_of ms) ≡ true
latch_defaults ms = both_true _ _ (hold_default (get_member (codes "hold") ms)) (cq_defaults (get_member (codes "cq_min") ms) (get_member (codes "cq_max") ms) _ _)

latch_keeps : (ms : Members) → keeps (judged (latch_of ms) (least_rule (latch_shape ms) (latch_of ms)))
latch_keeps ms cell same = through (latch_of ms) (latch_shape ms) cell _ refl (latch_defaults ms) same

as_keeps : (kind : List ℕ) (ms : Members) → keeps (read_as kind ms)
as_keeps kind ms =
    keeps_either (bytes_eq kind (codes "gate")) _ _ (gate_keeps ms)
    (keeps_either (bytes_eq kind (codes "latch")) _ _ (latch_keeps ms)
    (keeps_either (bytes_eq kind (codes "flop")) _ _ (flop_keeps ms)
    (keeps_either (bytes_eq kind (codes "clock")) _ _ (clock_keeps ms) (fails 2))))

table_keeps : (table : Option Members) → keeps (read_table table)
table_keeps None = fails 2
table_keeps (Some ms) = as_keeps (text_in [] (get_member (codes "kind") ms)) ms

named_keeps : (named : Bool) (name : List ℕ) (value : Data) (cell : Cell) → is_name name ≡ named → cond named (read_table (as_table value)) (Err 2) ≡ Ok cell → is_kept (name, cell) ≡ true
named_keeps true name value cell is same =
    let parts = table_keeps (as_table value) cell same in
    both_true _ _ (both_true _ _ is parts.0) parts.1
named_keeps false name value cell is same = absurd (cc)

-- what an entry stands for keeps its rules, under its name
pub entry_keeps : (name : List ℕ) (value : Data) (cell : Cell) → cell_of name value ≡ Ok cell → is_kept (name, cell) ≡ true
entry_keeps name value cell same = named_keeps (is_name name) name value cell refl same

read_keeps : (e : Entry) (c : List ℕ × Cell) → c.0 ≡ e.0 → cell_of e.0 e.1 ≡ Ok c.1 → is_kept c ≡ true
read_keeps e c same reads = subst (λ (name : List ℕ). is_kept (name, c.1) ≡ true) (sym same) (entry_keeps e.0 e.1 c.1 reads)

each_kept : (es : List Entry) (cells : List (List ℕ × Cell)) → AreRead es cells → list_all is_kept cells ≡ true
each_kept [] [] h = refl
each_kept [] (c ∷ cells) h = absurd h
each_kept (e ∷ es) [] h = absurd h
each_kept (e ∷ es) (c ∷ cells) h = both_true _ _ (read_keeps e c h.0.0 h.0.1) (each_kept es cells h.1)

pub kept : (es : List Entry) (cells : List (List ℕ × Cell)) → AreRead es cells → AreKept cells
kept es cells h = each_kept es cells h

pub names-AreRead : (es : List Entry) (cells : List (List ℕ × Cell)) → AreRead es cells → names_of cells ≡ map (λ (e : Entry). e.0) es
names-AreRead [] [] h = refl
names-AreRead [] (c ∷ cells) h = absurd h
names-AreRead (x ∷ es) [] h = absurd h
names-AreRead (x ∷ es) (c ∷ cells) h = ap (λ n. n ∷ names_of cells) h.0.0 ∙ ap (λ ns. x.0 ∷ ns) (names-AreRead es cells h.1)

-- a table of this shape stands for a cell that keeps its rules
pub fits : (shape : Shape) (cell : Cell) → shape.keys ≡ true → shape.pins ≡ true → shape.numbers ≡ true → shape.switches ≡ true → is_cell cell ≡ true →
    judged cell (least_rule shape cell) ≡ Ok cell
fits shape cell keys right_pins numbers switches is =
    let order = and_parts ((has_names cell && is_distinct (pins cell)) && has_limits cell) (has_order cell) is in
    let limits = and_parts (has_names cell && is_distinct (pins cell)) (has_limits cell) order.0 in
    let names = and_parts (has_names cell) (is_distinct (pins cell)) limits.0 in
    rw (keys, right_pins, numbers, switches, names.0, names.1, limits.1, order.1) refl
