-- The document of cells describes these cells.
use Rattle.std.proofs.Common.{◌≡◌, ℕ, max, ◌≤◌, if◌then◌else◌, ℤ, pos, int_le, Bool, true, false, ◌&&◌, ◌||◌, List, [], ◌∷◌, Some, Result, Ok, Err, refl, sym, ap, subst, ◌∙◌, arith}
use Rattle.std.specs.List.{list_all}
use Rattle.toml.specs.Data.{table, Members, items_depth, members_depth}
use Rattle.mintc_cells.specs.declared.cell.Cell.{Cell}
use Rattle.mintc_cells.specs.declared.cell.Cell.TheVariants.{Gate, Latch, Flop, Clock}
use Rattle.mintc_toml.specs.Lookups.{texts, are_texts}
use Rattle.mintc_toml.specs.Rules.{is_name}
use Rattle.mintc_cells.specs.Rules.{has_defaults, is_cell, is_same}
use Rattle.mintc_cells.specs.Description.{judged, least_rule, cell_of, read_table, gate_shape, clock_shape, latch_shape, flop_shape, latch_of, flop_of}
use Rattle.mintc_cells.specs.CellsOf.{entries, AreInTable, AreRead}
use Rattle.mintc_cells.specs.Entries.{is_kept, names_of, AreAscending}
use Rattle.mintc_cells.proofs.SharedKeptLaws.{fits, names-AreRead}
use Rattle.liberty2toml_command.specs.Tables.{text_items, table_of, tables_of, document_of}

-- texts come back
pub texts-same : (ts : List (List ℕ)) → texts (text_items ts) ≡ ts
texts-same [] = refl
texts-same (t ∷ ts) = ap (λ us. t ∷ us) (texts-same ts)

pub all-texts : (ts : List (List ℕ)) → are_texts (text_items ts) ≡ true
all-texts [] = refl
all-texts (t ∷ ts) = all-texts ts

pub both-left : (a b : Bool) → (a && b) ≡ true → a ≡ true
both-left a b h = grind arith

pub both-right : (a b : Bool) → (a && b) ≡ true → b ≡ true
both-right a b h = grind arith

-- what stands under a name
under : (name : List ℕ) (ms : Members) (r : Result Cell ℕ) → is_name name ≡ true → read_table (Some ms) ≡ r → cell_of name (table ms) ≡ r
under name ms r n e = ap (λ b. if b then read_table (Some ms) else Err 2) n ∙ e

and-true : (a b : Bool) → a ≡ true → b ≡ true → (a && b) ≡ true
and-true a b h k = rw (h, k) refl

-- two numbers neither of which is above the other
same-number : (x y : ℤ) → int_le x y ≡ true → int_le y x ≡ true → x ≡ y
same-number x y h k = grind (arith)

-- a gate comes back
pub gate : (inputs outputs : List (List ℕ)) (min_delay max_delay : ℤ) → is_cell (Gate inputs outputs min_delay max_delay) ≡ true →
    read_table (Some (table_of (Gate inputs outputs min_delay max_delay))) ≡ Ok (Gate inputs outputs min_delay max_delay)
gate inputs outputs a b h =
    let ms = table_of (Gate inputs outputs a b) in
    ap (λ cell. judged cell (least_rule (gate_shape ms) cell)) (ap (λ l. Gate l (texts (text_items outputs)) a b) (texts-same inputs) ∙ ap (λ l. Gate inputs l a b) (texts-same outputs))
    ∙ fits (gate_shape ms) (Gate inputs outputs a b) refl (and-true _ _ (all-texts inputs) (all-texts outputs)) refl refl h

-- a clock cell
pub clock : (input output : List ℕ) (invert : Bool) (ignored : List (List ℕ)) → is_cell (Clock input output invert ignored) ≡ true →
    read_table (Some (table_of (Clock input output invert ignored))) ≡ Ok (Clock input output invert ignored)
clock input output invert ignored h =
    let ms = table_of (Clock input output invert ignored) in
    ap (λ cell. judged cell (least_rule (clock_shape ms) cell)) (ap (λ l. Clock input output invert l) (texts-same ignored))
    ∙ fits (clock_shape ms) (Clock input output invert ignored) refl (all-texts ignored) refl refl h

-- Latches: what is read of a table, where it depends on which keys are there.

abbrev pub number_or : Bool → ℤ → ℤ → ℤ
number_or true z default = z
number_or false z default = default

abbrev LatchParts : (d g : List ℕ) (high : Bool) (outs ign : List (List ℕ)) (setup hold : ℤ) (has_hold : Bool) (dq_min dq_max cq_min cq_max : ℤ) (has_cq : Bool) (width : ℤ) → Type 0
LatchParts d g high outs ign setup hold has_hold dq_min dq_max cq_min cq_max has_cq width =
    let ms = table_of (Latch d g high outs ign setup hold has_hold dq_min dq_max cq_min cq_max has_cq width) in
    (read_table (Some ms) ≡ judged (latch_of ms) (least_rule (latch_shape ms) (latch_of ms)))
    × (latch_of ms ≡ Latch d g high (texts (text_items outs)) (texts (text_items ign)) setup (number_or has_hold hold (pos 0)) has_hold dq_min dq_max (number_or has_cq cq_min dq_min) (number_or has_cq cq_max dq_max) has_cq width)
    × ((latch_shape ms).keys ≡ true) × ((latch_shape ms).pins ≡ (are_texts (text_items outs) && are_texts (text_items ign))) × ((latch_shape ms).numbers ≡ true) × ((latch_shape ms).switches ≡ true)

latch-parts : (d g : List ℕ) (high : Bool) (outs ign : List (List ℕ)) (setup hold : ℤ) (has_hold : Bool) (dq_min dq_max cq_min cq_max : ℤ) (has_cq : Bool) (width : ℤ) →
    LatchParts d g high outs ign setup hold has_hold dq_min dq_max cq_min cq_max has_cq width
latch-parts d g true outs ign setup hold true dq_min dq_max cq_min cq_max true width = (refl, refl, refl, refl, refl, refl)
latch-parts d g true outs ign setup hold true dq_min dq_max cq_min cq_max false width = (refl, refl, refl, refl, refl, refl)
latch-parts d g true outs ign setup hold false dq_min dq_max cq_min cq_max true width = (refl, refl, refl, refl, refl, refl)
latch-parts d g true outs ign setup hold false dq_min dq_max cq_min cq_max false width = (refl, refl, refl, refl, refl, refl)
latch-parts d g false outs ign setup hold true dq_min dq_max cq_min cq_max true width = (refl, refl, refl, refl, refl, refl)
latch-parts d g false outs ign setup hold true dq_min dq_max cq_min cq_max false width = (refl, refl, refl, refl, refl, refl)
latch-parts d g false outs ign setup hold false dq_min dq_max cq_min cq_max true width = (refl, refl, refl, refl, refl, refl)
latch-parts d g false outs ign setup hold false dq_min dq_max cq_min cq_max false width = (refl, refl, refl, refl, refl, refl)

-- a number that isn't there has its default
default-kept : (has : Bool) (z default : ℤ) → (has || is_same z default) ≡ true → number_or has z default ≡ z
default-kept true z default h = refl
default-kept false z default h = sym (same-number z default (both-left _ _ h) (both-right _ _ h))

pub latch : (d g : List ℕ) (high : Bool) (outs ign : List (List ℕ)) (setup hold : ℤ) (has_hold : Bool) (dq_min dq_max cq_min cq_max : ℤ) (has_cq : Bool) (width : ℤ) →
    let cell = Latch d g high outs ign setup hold has_hold dq_min dq_max cq_min cq_max has_cq width in
    is_cell cell ≡ true → has_defaults cell ≡ true → read_table (Some (table_of cell)) ≡ Ok cell
latch d g high outs ign setup hold has_hold dq_min dq_max cq_min cq_max has_cq width h k =
    let cell = Latch d g high outs ign setup hold has_hold dq_min dq_max cq_min cq_max has_cq width in
    let shape = latch_shape (table_of cell) in
    let p = latch-parts d g high outs ign setup hold has_hold dq_min dq_max cq_min cq_max has_cq width in
    let low : number_or has_cq cq_min dq_min ≡ cq_min = default-kept has_cq cq_min dq_min (or-left has_cq (is_same cq_min dq_min) (is_same cq_max dq_max) (both-right (has_hold || is_same hold (pos 0)) _ k)) in
    let top : number_or has_cq cq_max dq_max ≡ cq_max = default-kept has_cq cq_max dq_max (or-right has_cq (is_same cq_min dq_min) (is_same cq_max dq_max) (both-right (has_hold || is_same hold (pos 0)) _ k)) in
    let held : number_or has_hold hold (pos 0) ≡ hold = default-kept has_hold hold (pos 0) (both-left (has_hold || is_same hold (pos 0)) _ k) in
    let same : latch_of (table_of cell) ≡ cell =
    p.1 ∙ ap (λ l. Latch d g high l (texts (text_items ign)) setup (number_or has_hold hold (pos 0)) has_hold dq_min dq_max (number_or has_cq cq_min dq_min) (number_or has_cq cq_max dq_max) has_cq width) (texts-same outs)
    ∙ ap (λ l. Latch d g high outs l setup (number_or has_hold hold (pos 0)) has_hold dq_min dq_max (number_or has_cq cq_min dq_min) (number_or has_cq cq_max dq_max) has_cq width) (texts-same ign)
    ∙ ap (λ z. Latch d g high outs ign setup z has_hold dq_min dq_max (number_or has_cq cq_min dq_min) (number_or has_cq cq_max dq_max) has_cq width) held
    ∙ ap (λ z. Latch d g high outs ign setup hold has_hold dq_min dq_max z (number_or has_cq cq_max dq_max) has_cq width) low
    ∙ ap (λ z. Latch d g high outs ign setup hold has_hold dq_min dq_max cq_min z has_cq width) top in
    p.0 ∙ ap (λ c. judged c (least_rule shape c)) same
    ∙ fits shape cell p.2 (p.3 ∙ and-true _ _ (all-texts outs) (all-texts ign)) p.4 p.5 h
  where
    or-left : (a b c : Bool) → (a || (b && c)) ≡ true → (a || b) ≡ true
    or-left a b c h = grind arith

    or-right : (a b c : Bool) → (a || (b && c)) ≡ true → (a || c) ≡ true
    or-right a b c h = grind arith

-- Flops
abbrev FlopParts : (d clk : List ℕ) (rising : Bool) (outs ign : List (List ℕ)) (setup hold : ℤ) (has_hold : Bool) (cq_min cq_max width : ℤ) → Type 0
FlopParts d clk rising outs ign setup hold has_hold cq_min cq_max width =
    let ms = table_of (Flop d clk rising outs ign setup hold has_hold cq_min cq_max width) in
    (read_table (Some ms) ≡ judged (flop_of ms) (least_rule (flop_shape ms) (flop_of ms)))
    × (flop_of ms ≡ Flop d clk rising (texts (text_items outs)) (texts (text_items ign)) setup (number_or has_hold hold (pos 0)) has_hold cq_min cq_max width)
    × ((flop_shape ms).keys ≡ true) × ((flop_shape ms).pins ≡ (are_texts (text_items outs) && are_texts (text_items ign))) × ((flop_shape ms).numbers ≡ true) × ((flop_shape ms).switches ≡ true)

flop-parts : (d clk : List ℕ) (rising : Bool) (outs ign : List (List ℕ)) (setup hold : ℤ) (has_hold : Bool) (cq_min cq_max width : ℤ) →
    FlopParts d clk rising outs ign setup hold has_hold cq_min cq_max width
flop-parts d clk true outs ign setup hold true cq_min cq_max width = (refl, refl, refl, refl, refl, refl)
flop-parts d clk true outs ign setup hold false cq_min cq_max width = (refl, refl, refl, refl, refl, refl)
flop-parts d clk false outs ign setup hold true cq_min cq_max width = (refl, refl, refl, refl, refl, refl)
flop-parts d clk false outs ign setup hold false cq_min cq_max width = (refl, refl, refl, refl, refl, refl)

pub flop : (d clk : List ℕ) (rising : Bool) (outs ign : List (List ℕ)) (setup hold : ℤ) (has_hold : Bool) (cq_min cq_max width : ℤ) →
    let cell = Flop d clk rising outs ign setup hold has_hold cq_min cq_max width in
    is_cell cell ≡ true → has_defaults cell ≡ true → read_table (Some (table_of cell)) ≡ Ok cell
flop d clk rising outs ign setup hold has_hold cq_min cq_max width h k =
    let cell = Flop d clk rising outs ign setup hold has_hold cq_min cq_max width in
    let shape = flop_shape (table_of cell) in
    let p = flop-parts d clk rising outs ign setup hold has_hold cq_min cq_max width in
    let same : flop_of (table_of cell) ≡ cell =
    p.1 ∙ ap (λ l. Flop d clk rising l (texts (text_items ign)) setup (number_or has_hold hold (pos 0)) has_hold cq_min cq_max width) (texts-same outs)
    ∙ ap (λ l. Flop d clk rising outs l setup (number_or has_hold hold (pos 0)) has_hold cq_min cq_max width) (texts-same ign)
    ∙ ap (λ z. Flop d clk rising outs ign setup z has_hold cq_min cq_max width) (default-kept has_hold hold (pos 0) k) in
    p.0 ∙ ap (λ c. judged c (least_rule shape c)) same
    ∙ fits shape cell p.2 (p.3 ∙ and-true _ _ (all-texts outs) (all-texts ign)) p.4 p.5 h

-- each cell comes back
pub back : (cell : Cell) → is_cell cell ≡ true → has_defaults cell ≡ true → read_table (Some (table_of cell)) ≡ Ok cell
back (Gate inputs outputs a b) h k = gate inputs outputs a b h
back (Latch d g high outs ign setup hold has_hold dq_min dq_max cq_min cq_max has_cq width) h k = latch d g high outs ign setup hold has_hold dq_min dq_max cq_min cq_max has_cq width h k
back (Flop d clk rising outs ign setup hold has_hold cq_min cq_max width) h k = flop d clk rising outs ign setup hold has_hold cq_min cq_max width h k
back (Clock input output invert ignored) h k = clock input output invert ignored h

-- all of them, in their order
pub all-back : (cells : List (List ℕ × Cell)) → list_all is_kept cells ≡ true → AreRead (entries (tables_of cells)) cells
all-back [] h = tt
all-back (c ∷ cs) h =
    let here : ((is_name c.0 && is_cell c.1) && has_defaults c.1) ≡ true = both-left (is_kept c) (list_all is_kept cs) h in
    let first = both-left (is_name c.0 && is_cell c.1) (has_defaults c.1) here in (
      (refl, under c.0 (table_of c.1) (Ok c.1) (both-left (is_name c.0) (is_cell c.1) first) (back c.1 (both-right (is_name c.0) (is_cell c.1) first) (both-right (is_name c.0 && is_cell c.1) (has_defaults c.1) here))),
      all-back cs (both-right (is_kept c) (list_all is_kept cs) h),
    )

pub in-document : (cells : List (List ℕ × Cell)) → AreAscending (names_of cells) → list_all is_kept cells ≡ true → AreInTable (document_of cells) cells
in-document cells up h =
    let es = entries (tables_of cells) in
    let back = all-back cells h in
    record { list = es; are_described = record { is_list = refl; ascending = subst AreAscending (names-AreRead es cells back) up }; read = back }

-- the document is shallow
items-shallow : (ts : List (List ℕ)) → items_depth (text_items ts) ≡ 0
items-shallow [] = refl
items-shallow (t ∷ ts) = ap (max 0) (items-shallow ts)

cell-shallow : (cell : Cell) → members_depth (table_of cell) ≤ 1
cell-shallow cell = grind (arith, items-shallow)

cells-shallow : (cells : List (List ℕ × Cell)) → members_depth (tables_of cells) ≤ 2
cells-shallow [] = omega arith
cells-shallow (c ∷ cs) = omega (arith, cell-shallow c.1, cells-shallow cs)

pub shallow : (cells : List (List ℕ × Cell)) → members_depth (document_of cells) ≤ 80
shallow cells = let s = cells-shallow cells in omega (arith, s)
