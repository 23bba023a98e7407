-- What a cell has to keep, whatever it was read from: the rules 4 to 7 on its value.
use Rattle.std.specs.Prelude.{ℕ, ℤ, pos, int_le, Bool, true, ◌&&◌, ◌||◌, List, [], ◌∷◌, ◌++◌}
use Rattle.mintc_cells.specs.declared.cell.Cell.{Cell}
use Rattle.mintc_cells.specs.declared.cell.Cell.TheVariants.{Gate, Latch, Flop, Clock}
use Rattle.mintc_toml.specs.Rules.{is_name, is_delay, is_margin}
use Rattle.mintc_cells.specs.Pins.{are_names, is_distinct}

-- the pins of a cell that aren't outputs, and its outputs
abbrev pub inputs_of : Cell → List (List ℕ)
inputs_of (Gate inputs outputs min max) = inputs
inputs_of (Latch pin_d pin_g high outputs ignored setup hold has_hold dq_min dq_max cq_min cq_max has_cq width) = pin_d
    ∷ pin_g ∷ ignored
inputs_of (Flop pin_d pin_clock rising outputs ignored setup hold has_hold cq_min cq_max width) = pin_d ∷ pin_clock ∷
    ignored
inputs_of (Clock input output invert ignored) = input ∷ ignored

-- the outputs of a cell
abbrev pub outputs_of : Cell → List (List ℕ)
outputs_of (Gate inputs outputs min max) = outputs
outputs_of (Latch pin_d pin_g high outputs ignored setup hold has_hold dq_min dq_max cq_min cq_max has_cq width) =
    outputs
outputs_of (Flop pin_d pin_clock rising outputs ignored setup hold has_hold cq_min cq_max width) = outputs
outputs_of (Clock input output invert ignored) = output ∷ []

-- the pins of a cell in cell order
abbrev pub pins : Cell → List (List ℕ)
pins cell = inputs_of cell ++ outputs_of cell

-- rule 4 on the value: the pins are names, as many as the kind has
abbrev pub has_names : Cell → Bool
has_names (Gate inputs outputs min max) = are_names 0 64 inputs && are_names 1 16 outputs
has_names (Latch pin_d pin_g high outputs ignored setup hold has_hold dq_min dq_max cq_min cq_max has_cq width) =
    (is_name pin_d && is_name pin_g) && (are_names 1 2 outputs && are_names 0 64 ignored)
has_names (Flop pin_d pin_clock rising outputs ignored setup hold has_hold cq_min cq_max width) =
    (is_name pin_d && is_name pin_clock) && (are_names 1 2 outputs && are_names 0 64 ignored)
has_names (Clock input output invert ignored) = (is_name input && is_name output) && are_names 0 64 ignored

-- rule 6 on the value: its numbers are in their limits
abbrev pub are_delays : ℤ → ℤ → Bool
are_delays x y = is_delay x && is_delay y

-- a setup, a hold and a width are in their limits
abbrev pub are_limits : ℤ → ℤ → ℤ → Bool
are_limits setup hold width = (is_margin setup && is_margin hold) && is_delay width

-- all numbers of a cell are in their limits
abbrev pub has_limits : Cell → Bool
has_limits (Gate inputs outputs min max) = is_delay min && is_delay max
has_limits (Latch pin_d pin_g high outputs ignored setup hold has_hold dq_min dq_max cq_min cq_max has_cq width) =
    are_limits setup hold width && (are_delays dq_min dq_max && are_delays cq_min cq_max)
has_limits (Flop pin_d pin_clock rising outputs ignored setup hold has_hold cq_min cq_max width) = are_limits setup hold
    width && are_delays cq_min cq_max
has_limits (Clock input output invert ignored) = true

-- rule 7: no max is below its min
abbrev pub has_order : Cell → Bool
has_order (Gate inputs outputs min max) = int_le min max
has_order (Latch pin_d pin_g high outputs ignored setup hold has_hold dq_min dq_max cq_min cq_max has_cq width) = int_le
    dq_min dq_max && int_le cq_min cq_max
has_order (Flop pin_d pin_clock rising outputs ignored setup hold has_hold cq_min cq_max width) = int_le cq_min cq_max
has_order (Clock input output invert ignored) = true

-- A hold that isn't there is 0, and the cq numbers of a latch that has none are its dq numbers.
abbrev pub is_same : ℤ → ℤ → Bool
is_same x y = int_le x y && int_le y x

-- a number that isn't there is as its default says
abbrev pub has_defaults : Cell → Bool
has_defaults (Gate inputs outputs min max) = true
has_defaults (Latch pin_d pin_g high outputs ignored setup hold has_hold dq_min dq_max cq_min cq_max has_cq width) =
    (has_hold || is_same hold (pos 0)) && (has_cq || (is_same cq_min dq_min && is_same cq_max dq_max))
has_defaults (Flop pin_d pin_clock rising outputs ignored setup hold has_hold cq_min cq_max width) = has_hold
    || is_same hold (pos 0)
has_defaults (Clock input output invert ignored) = true

-- what a cell keeps
abbrev pub is_cell : Cell → Bool
is_cell cell = ((has_names cell && is_distinct (pins cell)) && has_limits cell) && has_order cell
