-- The senses of a library's cells: which edges of an input may make which edges of an output.
use Rattle.std.specs.Prelude.{ℕ, Bool, true, false, not, ◌&&◌, ◌||◌, if◌then◌else◌, List, [], ◌∷◌, map}
use Rattle.std.specs.Prelude.{Option, Some, None}
use Rattle.std.specs.Prelude.{option_and_then, option_map, unwrap_or, codes, bytes_eq, slice_index_or}
use Rattle.std.specs.Option.{option_or}
use Rattle.mintc_senses_expressions.specs.declared.transitions.Transitions.{Transitions}
use Rattle.mintc_senses_expressions.specs.Transitions.{no_transitions, same_edges, other_edges, all_transitions}
use Rattle.mintc_senses_expressions.specs.Transitions.{together}
use Rattle.mintc_senses_expressions.specs.Transitions.{turned}
use Rattle.mintc_senses_expressions.specs.Reading.{some_of, function_sense}
use Rattle.mintc_cells.specs.declared.cell.Cell.{Cell}
use Rattle.mintc_cells.specs.declared.cell.Cell.TheVariants.{Gate, Latch, Flop, Clock}
use Rattle.mintc_cells.specs.Rules.{inputs_of, outputs_of}
use Rattle.mintc_liberty_tokens.specs.Tokens.{names_in, tokens_of}
use Rattle.mintc_liberty_tokens.specs.Statements.{Statements, none, front}
use Rattle.mintc_liberty_cell.specs.Expressions.{is_among}
use Rattle.mintc_liberty_cell.specs.Meaning.{Group, groups, last_value, is_text, says}
use Rattle.mintc_liberty.specs.Texts.{behind_head}
use Rattle.mintc_liberty.specs.Meaning.{cells_in}
use Rattle.mintc_senses.specs.declared.words.Cut.TheVariants as cut
use Rattle.mintc_senses.specs.Words.{words_of, is_wanted_among}

-- the statements inside the first of some groups that passes a test
abbrev pub first_inside : (Group → Bool) → List Group → Statements
first_inside test [] = none
first_inside test (g ∷ gs) = if test g then g.inner else first_inside test gs

-- a group of pins that aren't inside the cell, with this one among them
abbrev pub is_pin_of : List ℕ → Group → Bool
is_pin_of y g =
    bytes_eq g.name (codes "pin") && not (says (codes "direction") (codes "internal") g.inner)
    && is_among (names_in g.items) y

-- what is said of a pin
abbrev pub pin_inside : List Group → List ℕ → Statements
pin_inside gs y = first_inside (is_pin_of y) gs

-- what is said of a pin's function
abbrev pub function_in : Statements → Option (List ℕ)
function_in inner = last_value (codes "function") inner

-- the transitions of an input by a function, where it is an expression that has the input
abbrev pub by_function : List ℕ → Option (List ℕ) → Option Transitions
by_function a f = option_and_then (λ text. function_sense text a) f

-- what a `timing_sense` says
abbrev pub unate : Option (List ℕ) → Transitions
unate said =
    if is_text (codes "positive_unate") said then same_edges
    else (if is_text (codes "negative_unate") said then other_edges
    else all_transitions)

-- of transitions those that end in a rise, and those that end in a fall
abbrev pub to_rise : Transitions → Transitions
to_rise t = record {
  rise_to_rise = t.rise_to_rise;
  rise_to_fall = false;
  fall_to_rise = t.fall_to_rise;
  fall_to_fall = false;
}

abbrev pub to_fall : Transitions → Transitions
to_fall t = record {
  rise_to_rise = false;
  rise_to_fall = t.rise_to_fall;
  fall_to_rise = false;
  fall_to_fall = t.fall_to_fall;
}

-- what a `timing_type` leaves of them, or all where it is none of the combinational ones
abbrev pub by_type : Option (List ℕ) → Transitions → Transitions
by_type None t = t
by_type (Some said) t =
    if bytes_eq said (codes "combinational") then t
    else (if bytes_eq said (codes "combinational_rise") then to_rise t
    else (if bytes_eq said (codes "combinational_fall") then to_fall t
    else all_transitions))

-- the transitions of a group `timing`
abbrev pub timing_transitions : Statements → Transitions
timing_transitions inner = by_type (last_value (codes "timing_type") inner) (unate (last_value (codes "timing_sense")
    inner))

-- whether a value names an input, among words between white space
abbrev pub names_input : List ℕ → Option (List ℕ) → Bool
names_input a None = false
names_input a (Some said) = is_wanted_among true a (words_of cut.White said)

-- a group `timing` that names an input
abbrev pub is_timing_of : List ℕ → Group → Bool
is_timing_of a g = bytes_eq g.name (codes "timing") && names_input a (last_value (codes "related_pin") g.inner)

-- the transitions of an input by the groups `timing` that name it, put together
abbrev pub by_timing : List ℕ → List Group → Transitions
by_timing a [] = no_transitions
by_timing a (g ∷ gs) =
    if is_timing_of a g then together (timing_transitions g.inner) (by_timing a gs) else by_timing a gs

-- A gate's input and output, by what is said of the output: by its function; where that doesn't have the input, by
-- the groups `timing`; where none names it, all.
abbrev pub gate_sense : Statements → List ℕ → Transitions
gate_sense inner a = unwrap_or (option_or (by_function a (function_in inner)) (some_of (by_timing a (groups inner))))
    all_transitions

-- the transitions of a word in what is said, where that is an expression with no other word: the word plain or
-- inverted
abbrev pub literal_sense : List ℕ → Option (List ℕ) → Option Transitions
literal_sense w None = None
literal_sense w (Some text) =
    if is_wanted_among false w (words_of cut.Expression text) then None else function_sense text w

-- two names, where there are just two
abbrev pub two_of : List (List ℕ) → Option (List ℕ × List ℕ)
two_of (p ∷ q ∷ []) = Some (p, q)
two_of names = None

-- from the state of a latch or flop to an output: the second name is the first one inverted
abbrev pub state_sense : Option (List ℕ × List ℕ) → Option (List ℕ) → Option Transitions
state_sense None f = None
state_sense (Some p) f = option_or (literal_sense p.0 f) (option_map turned (literal_sense p.1 f))

-- from one place to the next and on to a third: as the first, or turned where the second turns
abbrev pub through : Transitions → Transitions → Transitions
through s t = record {
  rise_to_rise = (s.rise_to_rise && t.rise_to_rise) || (s.rise_to_fall && t.fall_to_rise);
  rise_to_fall = (s.rise_to_rise && t.rise_to_fall) || (s.rise_to_fall && t.fall_to_fall);
  fall_to_rise = (s.fall_to_rise && t.rise_to_rise) || (s.fall_to_fall && t.fall_to_rise);
  fall_to_fall = (s.fall_to_rise && t.rise_to_fall) || (s.fall_to_fall && t.fall_to_fall);
}

-- the first group of a name
abbrev pub first_named : List ℕ → List Group → Option Group
first_named name [] = None
first_named name (g ∷ gs) = if bytes_eq g.name name then Some g else first_named name gs

-- from the data pin of a group that keeps a state, by the attribute of this name, to an output of this function
abbrev pub keeper_sense : List ℕ → List ℕ → Option (List ℕ) → Option Group → Option Transitions
keeper_sense key d f None = None
keeper_sense key d f (Some g) = option_and_then
    (λ s. option_and_then (λ t. some_of (through s t)) (state_sense (two_of (names_in g.items)) f))
    (literal_sense d (last_value key g.inner))

-- A latch's or flop's data pin and output: the same edges or the others, where the data is plain or inverted and the
-- output's function is one of the group's two names, plain or inverted; else all.
abbrev pub stored_sense : List ℕ → List ℕ → List Group → List ℕ → List ℕ → Transitions
stored_sense kind key gs d y = unwrap_or (keeper_sense key d (function_in (pin_inside gs y)) (first_named kind gs))
    all_transitions

-- the sense of an input and an output of a cell, by the statements inside its group
abbrev pub sense_in : List Group → Cell → List ℕ → List ℕ → Transitions
sense_in gs (Gate inputs outputs min max) a y = gate_sense (pin_inside gs y) a
sense_in gs (Latch pin_d pin_g high outputs ignored setup hold has_hold dq_min dq_max cq_min cq_max has_cq width) a y =
    if bytes_eq a pin_d then stored_sense (codes "latch") (codes "data_in") gs pin_d y else all_transitions
sense_in gs (Flop pin_d pin_clock rising outputs ignored setup hold has_hold cq_min cq_max width) a y =
    if bytes_eq a pin_d then stored_sense (codes "ff") (codes "next_state") gs pin_d y else all_transitions
sense_in gs (Clock input output invert ignored) a y = all_transitions

-- The statements directly in the library of a text.
abbrev pub library_inside : List ℕ → Statements
library_inside text = unwrap_or (option_map (λ ts. (front 63 ts).statements) (behind_head (tokens_of text))) none

-- the statements of the first cell of a name
abbrev pub cell_inside : List ℕ → List (List ℕ × Statements) → Option Statements
cell_inside name [] = None
cell_inside name (e ∷ es) = if bytes_eq e.0 name then Some e.1 else cell_inside name es

-- the groups of a cell of a library
abbrev pub groups_of_cell : List (List ℕ × Statements) → List ℕ → List Group
groups_of_cell es name = groups (unwrap_or (cell_inside name es) none)

-- the senses of a cell: for each output, in cell order, those of all inputs
abbrev pub senses_by : List Group → Cell → List (List Transitions)
senses_by gs cell = map (λ y. map (λ a. sense_in gs cell a y) (inputs_of cell)) (outputs_of cell)

-- the senses of some cells, by the statements of a library
abbrev pub senses_of : Statements → List (List ℕ × Cell) → List (List (List Transitions))
senses_of is cells = map (λ e. senses_by (groups_of_cell (cells_in (groups is)) e.0) e.1) cells

-- the sense of the numbers of a cell, of an input, and of an output, counted among the cell's outputs
abbrev pub sense_at : List (List (List Transitions)) → ℕ → ℕ → ℕ → Transitions
sense_at senses cell input output = slice_index_or (slice_index_or (slice_index_or senses cell []) output []) input
    all_transitions
