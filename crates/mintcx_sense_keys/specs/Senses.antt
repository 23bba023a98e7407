-- What the keys of senses say of the pins of a cell.
use Rattle.std.specs.Prelude.{ℕ, ◌+◌, Bool, false, true, ◌&&◌, ◌||◌, if◌then◌else◌, List, ◌∷◌, ◌++◌, map, length}
use Rattle.std.specs.Prelude.{nat_le, codes, bytes_eq, count_by}
use Rattle.std.specs.List.{list_any, list_all}
use Rattle.toml.specs.Data.{Data, table, Members, no_members, get_member}
use Rattle.mintc_toml.specs.Lookups.{texts_in, are_texts_in}
use Rattle.mintc_cells.specs.declared.cell.Cell.{Cell}
use Rattle.mintc_cells.specs.declared.cell.Cell.TheVariants.{Gate, Latch, Flop, Clock}
use Rattle.mintc_cells.specs.Rules.{inputs_of, outputs_of}
use Rattle.mintc_senses_expressions.specs.declared.transitions.Transitions.{Transitions}
use Rattle.mintc_senses_expressions.specs.Transitions.{same_edges, other_edges, all_transitions}
use Rattle.mintcx_sense_keys.specs.declared.naming.Keys.{Keys}
use Rattle.mintcx_sense_keys.specs.declared.naming.TheConstants.{MOST_PAIRS}

-- the items of the two keys of a table
abbrev pub keys_of : Members → Keys
keys_of ms = record {
  positive = texts_in (get_member (codes "positive") ms);
  negative = texts_in (get_member (codes "negative") ms);
}

-- Whether an item names the pair of pin a and output y. Of a gate it is the pin, or the pin and the output with a space
-- between; of a latch or flop it is the output, and the pin is the data pin.
abbrev pub names_pair : Cell → List ℕ → List ℕ → List ℕ → Bool
names_pair (Gate inputs outputs min max) a y item = bytes_eq item a || bytes_eq item (a ++ 32 ∷ y)
names_pair (Latch pin_d pin_g high outputs ignored setup hold has_hold dq_min dq_max cq_min cq_max has_cq width) a y i =
    bytes_eq a pin_d && bytes_eq i y
names_pair (Flop pin_d pin_clock rising outputs ignored setup hold has_hold cq_min cq_max width) a y item =
    bytes_eq a pin_d && bytes_eq item y
names_pair (Clock input output invert ignored) a y item = false

-- which edges of pin a may make which edges of output y: all of them where no item names the pair
abbrev pub pair_sense : Keys → Cell → List ℕ → List ℕ → Transitions
pair_sense keys cell a y =
    if list_any (names_pair cell a y) keys.positive then same_edges
    else (if list_any (names_pair cell a y) keys.negative then other_edges
    else all_transitions)

-- the senses of a cell: for each output, in cell order, those of all pins that are none
abbrev pub cell_senses : Keys → Cell → List (List Transitions)
cell_senses keys cell = map (λ y. map (λ a. pair_sense keys cell a y) (inputs_of cell)) (outputs_of cell)

-- ---- rule 9

-- whether an item names a pair of the cell
abbrev pub names_some : Cell → List ℕ → Bool
names_some cell item = list_any (λ y. list_any (λ a. names_pair cell a y item) (inputs_of cell)) (outputs_of cell)

-- whether one item of both keys at most names a pair
abbrev pub is_named_once : Keys → Cell → List ℕ → List ℕ → Bool
is_named_once keys cell a y =
    nat_le (count_by (names_pair cell a y) keys.positive + count_by (names_pair cell a y) keys.negative) 1

-- whether it is so of each pair
abbrev pub are_named_once : Keys → Cell → Bool
are_named_once keys cell = list_all (λ y. list_all (λ a. is_named_once keys cell a y) (inputs_of cell))
    (outputs_of cell)

-- whether there are as many items as a gate may have pairs at most, which the rest of the rule implies
abbrev pub are_few : Keys → Bool
are_few keys = nat_le (length keys.positive + length keys.negative) MOST_PAIRS

-- whether all items name a pair
abbrev pub all_name_some : Keys → Cell → Bool
all_name_some keys cell = list_all (names_some cell) keys.positive && list_all (names_some cell) keys.negative

-- each item names a pair, and no pair is named twice
abbrev pub are_fit : Keys → Cell → Bool
are_fit keys cell = (are_few keys && all_name_some keys cell) && are_named_once keys cell

-- the keys are lists of texts, or absent
abbrev pub has_lists : Members → Bool
has_lists ms =
    are_texts_in true (get_member (codes "positive") ms) && are_texts_in true (get_member (codes "negative") ms)

-- a table keeps rule 9 for its cell
abbrev pub is_fit : Members → Cell → Bool
is_fit ms cell = has_lists ms && are_fit (keys_of ms) cell

-- the table of an entry, empty where it is none
abbrev pub table_in : Data → Members
table_in (table ms) = ms
table_in d = no_members

-- an entry and the cell that it stands for, which keeps rule 9
abbrev pub keeps_nine : Data × Cell → Bool
keeps_nine p = is_fit (table_in p.0) p.1

-- the senses that an entry says of its cell
abbrev pub senses_said : Data × Cell → List (List Transitions)
senses_said p = cell_senses (keys_of (table_in p.0)) p.1
