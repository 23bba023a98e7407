-- From some entries to one more, and what all of them keep.
use Rattle.std.proofs.Common.{◌≡◌, ℕ, ◌+◌, ◌<◌, Bool, true, false, ◌&&◌, nat_lt, ℤ, List, [], ◌∷◌, ◌++◌, length, get_or, take, Option, Some, None, unwrap_or, if◌then◌else◌, refl, sym, ap, subst, ◌∙◌, arith}
use Rattle.std.proofs.lemmas.Bool.Decides.{nat_tests}
use Rattle.std.proofs.lemmas.List.{length-map, length-append, map-append, take_more, get_or_append_left, get_or_default, get_or-map}
use Rattle.std.proofs.lemmas.List.Sums.{AllPass-from_list_all, list_all-from_AllPass}
use Rattle.std.proofs.Math.Seq.{get_or-append_seam, take-length}
use Rattle.mintc_cells.specs.declared.cell.Cell.{Cell}
use Rattle.mintc_cells.specs.declared.cell.Cell.TheVariants.{Gate, Latch, Flop, Clock}
use Rattle.mintc_toml.specs.Rules.{is_name}
use Rattle.mintc_cells.specs.Pins.{is_distinct}
use Rattle.mintc_cells.specs.Rules.{has_limits, has_order}
use Rattle.mintc_cells.specs.Entries.{names_of, name_at, cell_at, no_cell, is_kept, AreOrdered, AreAscending}
use Rattle.mintc_liberty_cell.specs.Expressions.{is_among}
use Rattle.mintc_senses_expressions.specs.declared.transitions.Transitions.{Transitions}
use Rattle.mintc_senses.specs.Senses.{sense_at}
use Rattle.mintcx_clock_cells.specs.Clocks.{Senses, Cells, alone, inverts, clock_between, clock_with, clock_at, cell_for}

-- One more

name-there : (cells : Cells) (k : ℕ) → k < length cells → get_or (names_of cells) k [] ≡ name_at cells k
name-there cells k h = get_or-map (λ (e : List ℕ × Cell). e.0) cells k no_cell [] h

length-names : (cells : Cells) → length (names_of cells) ≡ length cells
length-names cells = length-map cells (λ (e : List ℕ × Cell). e.0)

pub names-more : (cells es : Cells) (n : List ℕ) (c : Cell) (i : ℕ) → i < length cells → names_of es ≡ take i (names_of cells) → n ≡ name_at cells i →
    names_of (es ++ (n, c) ∷ []) ≡ take (i + 1) (names_of cells)
names-more cells es n c i h e f =
    map-append (λ (e : List ℕ × Cell). e.0) es ((n, c) ∷ [])
    ∙ ap (λ ns. ns ++ n ∷ []) e
    ∙ ap (λ m. take i (names_of cells) ++ m ∷ []) (f ∙ sym (name-there cells i h))
    ∙ sym (take_more (names_of cells) i [] (omega (arith, h, length-names cells)))

pub count-more : (es : Cells) (n : List ℕ) (c : Cell) (i : ℕ) → length es ≡ i → length (es ++ (n, c) ∷ []) ≡ i + 1
count-more es n c i h = length-append es ((n, c) ∷ []) ∙ ap (λ k. k + 1) h

-- all of them
pub names-all : (cells es : Cells) (i : ℕ) → i ≡ length cells → names_of es ≡ take i (names_of cells) → names_of es ≡ names_of cells
names-all cells es i h e = e ∙ ap (λ k. take k (names_of cells)) (h ∙ sym (length-names cells)) ∙ take-length (names_of cells)

pub each-more : (es : Cells) (n : List ℕ) (c : Cell) (f : ℕ → Cell) (i : ℕ) → length es ≡ i → ((k : ℕ) → k < i → cell_at es k ≡ f k) → c ≡ f i →
    (k : ℕ) → k < i + 1 → cell_at (es ++ (n, c) ∷ []) k ≡ f k
each-more es n c f i size before this k h = by (nat_lt k i) refl
  where
    by : (b : Bool) → nat_lt k i ≡ b → cell_at (es ++ (n, c) ∷ []) k ≡ f k
    by true e =
        let less : k < i = grind (arith, nat_tests) in
        ap (λ (x : List ℕ × Cell). x.1) (get_or_append_left es ((n, c) ∷ []) no_cell k (omega (arith, less, size))) ∙ before k less
    by false e =
        let same : k ≡ i = grind (arith, nat_tests) in
        let last : k ≡ length es = omega (arith, same, size) in
        ap (cell_at (es ++ (n, c) ∷ [])) last ∙ ap (λ (x : List ℕ × Cell). x.1) (get_or-append_seam es (n, c) [] no_cell) ∙ this ∙ ap f (sym same)

-- What is kept

-- a gate's name, its pins' names, whether these differ, and its limits and order; of the cell of the clock the first four
pins-kept : (n a y d l o : Bool) → ((n && (((((a && true) && (y && true)) && d) && l) && o)) && true) ≡ true → ((n && (((((a && y) && true) && d) && true) && true)) && true) ≡ true
pins-kept true true true true l o h = refl
pins-kept true true true false l o h = absurd (cc)
pins-kept true true false d l o h = absurd (cc)
pins-kept true false y d l o h = absurd (cc)
pins-kept false a y d l o h = absurd (cc)

gate-kept : (n : List ℕ) (turned : Option Bool) (inputs outputs : List (List ℕ)) (min max : ℤ) → is_kept (n, Gate inputs outputs min max) ≡ true →
    is_kept (n, unwrap_or (clock_between turned (alone inputs) (alone outputs)) (Gate inputs outputs min max)) ≡ true
gate-kept n None inputs outputs min max h = h
gate-kept n (Some b) [] outputs min max h = h
gate-kept n (Some b) (a ∷ c ∷ inputs) outputs min max h = h
gate-kept n (Some b) (a ∷ []) [] min max h = h
gate-kept n (Some b) (a ∷ []) (y ∷ z ∷ outputs) min max h = h
gate-kept n (Some b) (a ∷ []) (y ∷ []) min max h = pins-kept (is_name n) (is_name a) (is_name y) (is_distinct (a ∷ y ∷ [])) (has_limits (Gate (a ∷ []) (y ∷ []) min max)) (has_order (Gate (a ∷ []) (y ∷ []) min max)) h

clock-kept : (n : List ℕ) (s : Transitions) (c : Cell) → is_kept (n, c) ≡ true → is_kept (n, unwrap_or (clock_with s c) c) ≡ true
clock-kept n s (Gate inputs outputs min max) h = gate-kept n (inverts s) inputs outputs min max h
clock-kept n s (Latch d g high outs ignored setup hold has_hold dq_min dq_max cq_min cq_max has_cq width) h = h
clock-kept n s (Flop d clock rising outs ignored setup hold has_hold cq_min cq_max width) h = h
clock-kept n s (Clock input output invert ignored) h = h

chosen-kept : (gates : List (List ℕ)) (senses : Senses) (cells : Cells) (k : ℕ) → is_kept (name_at cells k, cell_at cells k) ≡ true → is_kept (name_at cells k, cell_for gates senses cells k) ≡ true
chosen-kept gates senses cells k h = by (is_among gates (name_at cells k))
  where
    by : (b : Bool) → is_kept (name_at cells k, (if b then unwrap_or (clock_at senses cells k) (cell_at cells k) else cell_at cells k)) ≡ true
    by true = clock-kept (name_at cells k) (sense_at senses k 0 0) (cell_at cells k) h
    by false = h

-- the entries are ordered as the cells are
pub ordered : (gates : List (List ℕ)) (senses : Senses) (cells es : Cells) → AreOrdered cells → names_of es ≡ names_of cells →
    ((k : ℕ) → k < length cells → cell_at es k ≡ cell_for gates senses cells k) → AreOrdered es
ordered gates senses cells es kept names each = record {
  few = omega (arith, size, kept.few);
  ascending = subst AreAscending (sym names) kept.ascending;
  each = list_all-from_AllPass is_kept es (λ k d h. subst (λ (e : List ℕ × Cell). is_kept e ≡ true) (get_or_default es k no_cell d h) (here k h));
}
  where
    size : length es ≡ length cells
    size = sym (length-names es) ∙ ap length names ∙ length-names cells

    here : (k : ℕ) → k < length es → is_kept (get_or es k no_cell) ≡ true
    here k h =
        let within : k < length cells = omega (arith, h, size) in
        let name : name_at es k ≡ name_at cells k = sym (name-there es k h) ∙ ap (λ ns. get_or ns k []) names ∙ name-there cells k within in
        let before : is_kept (get_or cells k no_cell) ≡ true = AllPass-from_list_all is_kept cells kept.each k no_cell within in
        rw (name, each k within) (chosen-kept gates senses cells k before)
