-- The cell that a table of a description stands for, and the least of its rules that fails.
use Rattle.std.specs.Prelude.{◌≡◌, ℕ, pos, Bool, true, false, not, ◌&&◌, ◌||◌, is_some, if◌then◌else◌, List, [], ◌∷◌}
use Rattle.std.specs.Prelude.{Option, Some, None, Result, Ok, Err, codes, bytes_eq}
use Rattle.toml.specs.Data.{Data, Members, get_member, as_table}
use Rattle.mintc_cells.specs.declared.shape.Shape.{Shape}
use Rattle.mintc_cells.specs.declared.shape.Fault.{Fault}
use Rattle.mintc_cells.specs.declared.shape.Fault.TheVariants as fault
use Rattle.mintc_cells.specs.declared.cell.Cell.{Cell}
use Rattle.mintc_cells.specs.declared.cell.Cell.TheVariants.{Gate, Latch, Flop, Clock}
use Rattle.mintc_toml.specs.Lookups.{text_in, is_text_in, texts_in, are_texts_in, integer_in, is_integer_in, flag_in}
use Rattle.mintc_toml.specs.Lookups.{is_flag_in, has_only, is_one_of, are_integers}
use Rattle.mintc_toml.specs.Rules.{is_name}
use Rattle.mintc_cells.specs.Pins.{is_distinct}
use Rattle.mintc_cells.specs.Rules.{pins, has_names, has_limits, has_order}

-- A `Shape` is which keys a table has, and of which types: rule 3, and what the rules 4, 6 and 8 say of types.
abbrev pub gate_shape : Members → Shape
gate_shape ms = record {
  keys = has_only (codes "kind" ∷ codes "inputs" ∷ codes "outputs" ∷ codes "min" ∷ codes "max" ∷ []) ms;
  pins = are_texts_in false (get_member (codes "inputs") ms) && are_texts_in false (get_member (codes "outputs") ms);
  numbers = is_integer_in true (get_member (codes "min") ms) && is_integer_in true (get_member (codes "max") ms);
  switches = true;
}

-- the shape of a clock cell's table
abbrev pub clock_shape : Members → Shape
clock_shape ms = record {
  keys = has_only (codes "kind" ∷ codes "input" ∷ codes "output" ∷ codes "invert" ∷ codes "ignored" ∷ []) ms;
  pins = (is_text_in false (get_member (codes "input") ms) && is_text_in false (get_member (codes "output") ms))
      && are_texts_in true (get_member (codes "ignored") ms);
  numbers = true;
  switches = is_flag_in (get_member (codes "invert") ms);
}

-- the cell that a table stands for, with defaults in place of what it lacks
abbrev pub gate_of : Members → Cell
gate_of ms =
    let min = integer_in (pos 0) (get_member (codes "min") ms) in
    Gate (texts_in (get_member (codes "inputs") ms)) (texts_in (get_member (codes "outputs") ms)) min
    (integer_in min (get_member (codes "max") ms))

-- the clock cell that a table stands for
abbrev pub clock_of : Members → Cell
clock_of ms =
    Clock (text_in [] (get_member (codes "input") ms)) (text_in [] (get_member (codes "output") ms))
    (flag_in false (get_member (codes "invert") ms))
    (texts_in (get_member (codes "ignored") ms))

-- the keys of the pins of a latch or flop
abbrev pub has_pins : List ℕ → List ℕ → Members → Bool
has_pins first second ms = (is_text_in false (get_member first ms) && is_text_in false (get_member second ms))
    && (are_texts_in false (get_member (codes "outputs") ms) && are_texts_in true (get_member (codes "ignored") ms))

-- the shape of a latch's table
abbrev pub latch_shape : Members → Shape
latch_shape ms = record {
  keys = has_only (codes "kind" ∷ codes "d" ∷ codes "g" ∷ codes "outputs" ∷ codes "active" ∷ codes "ignored" ∷
      codes "setup" ∷ codes "hold" ∷ codes "dq_min" ∷ codes "dq_max" ∷ codes "cq_min" ∷ codes "cq_max" ∷ codes "width" ∷
      []) ms;
  pins = has_pins (codes "d") (codes "g") ms;
  numbers = are_integers (codes "setup" ∷ codes "hold" ∷ codes "dq_min" ∷ codes "dq_max" ∷ codes "cq_min" ∷
      codes "cq_max" ∷ codes "width" ∷ []) ms;
  switches = is_one_of (codes "high" ∷ codes "low" ∷ []) (codes "high") (get_member (codes "active") ms);
}

-- the shape of a flop's table
abbrev pub flop_shape : Members → Shape
flop_shape ms = record {
  keys = has_only (codes "kind" ∷ codes "d" ∷ codes "clock" ∷ codes "outputs" ∷ codes "edge" ∷ codes "ignored" ∷
      codes "setup" ∷ codes "hold" ∷ codes "cq_min" ∷ codes "cq_max" ∷ codes "width" ∷ []) ms;
  pins = has_pins (codes "d") (codes "clock") ms;
  numbers = are_integers (codes "setup" ∷ codes "hold" ∷ codes "cq_min" ∷ codes "cq_max" ∷ codes "width" ∷ []) ms;
  switches = is_one_of (codes "rising" ∷ codes "falling" ∷ []) (codes "rising") (get_member (codes "edge") ms);
}

-- the latch that a table stands for
abbrev pub latch_of : Members → Cell
latch_of ms =
    let dq_min = integer_in (pos 0) (get_member (codes "dq_min") ms) in
    let dq_max = integer_in dq_min (get_member (codes "dq_max") ms) in
    Latch (text_in [] (get_member (codes "d") ms)) (text_in [] (get_member (codes "g") ms))
    (bytes_eq (text_in (codes "high") (get_member (codes "active") ms)) (codes "high"))
    (texts_in (get_member (codes "outputs") ms)) (texts_in (get_member (codes "ignored") ms))
    (integer_in (pos 0) (get_member (codes "setup") ms)) (integer_in (pos 0) (get_member (codes "hold") ms))
    (is_some (get_member (codes "hold") ms)) dq_min dq_max
    (integer_in dq_min (get_member (codes "cq_min") ms)) (integer_in dq_max (get_member (codes "cq_max") ms))
    (is_some (get_member (codes "cq_min") ms) || is_some (get_member (codes "cq_max") ms))
    (integer_in (pos 0) (get_member (codes "width") ms))

-- the flop that a table stands for
abbrev pub flop_of : Members → Cell
flop_of ms =
    let cq_min = integer_in (pos 0) (get_member (codes "cq_min") ms) in
    Flop (text_in [] (get_member (codes "d") ms)) (text_in [] (get_member (codes "clock") ms))
    (bytes_eq (text_in (codes "rising") (get_member (codes "edge") ms)) (codes "rising"))
    (texts_in (get_member (codes "outputs") ms)) (texts_in (get_member (codes "ignored") ms))
    (integer_in (pos 0) (get_member (codes "setup") ms)) (integer_in (pos 0) (get_member (codes "hold") ms))
    (is_some (get_member (codes "hold") ms)) cq_min (integer_in cq_min (get_member (codes "cq_max") ms))
    (integer_in (pos 0) (get_member (codes "width") ms))

-- the least rule that a cell of this shape fails
abbrev pub least_rule : Shape → Cell → Option ℕ
least_rule shape cell =
    if not shape.keys then Some 3
    else (if not (shape.pins && has_names cell) then Some 4
    else (if not (is_distinct (pins cell)) then Some 5
    else (if not (shape.numbers && has_limits cell) then Some 6
    else (if not (has_order cell) then Some 7
    else (if not shape.switches then Some 8
    else None)))))

-- the cell, or its least failing rule
abbrev pub judged : Cell → Option ℕ → Result Cell ℕ
judged cell None = Ok cell
judged cell (Some rule) = Err rule

-- by the kind that the table names; rule 2 where it names none
abbrev pub read_as : List ℕ → Members → Result Cell ℕ
read_as kind ms =
    if bytes_eq kind (codes "gate") then judged (gate_of ms) (least_rule (gate_shape ms) (gate_of ms))
    else (if bytes_eq kind (codes "latch") then judged (latch_of ms) (least_rule (latch_shape ms) (latch_of ms))
    else (if bytes_eq kind (codes "flop") then judged (flop_of ms) (least_rule (flop_shape ms) (flop_of ms))
    else (if bytes_eq kind (codes "clock") then judged (clock_of ms) (least_rule (clock_shape ms) (clock_of ms))
    else Err 2)))

-- what the table of an entry stands for, rule 2 where it is no table
abbrev pub read_table : Option Members → Result Cell ℕ
read_table None = Err 2
read_table (Some ms) = read_as (text_in [] (get_member (codes "kind") ms)) ms

-- what an entry of the description stands for
abbrev pub cell_of : List ℕ → Data → Result Cell ℕ
cell_of name value = if is_name name then read_table (as_table value) else Err 2

-- what a call that may want memory gives of this
abbrev pub Reads : Result Cell ℕ → Result Cell Fault → Type 0
Reads reading (Ok cell) = reading ≡ Ok cell
Reads reading (Err (fault.Rule rule)) = reading ≡ Err rule
Reads reading (Err fault.OutOfMemory) = Unit {0}
