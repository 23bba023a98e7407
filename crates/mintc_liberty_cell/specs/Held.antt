-- What is held of a cell while its groups are read.
use Rattle.std.specs.Prelude.{ℕ, Bool, ◌&&◌, if◌then◌else◌, List, ◌++◌, length, nat_le, Option, None, option_map}
use Rattle.std.specs.Prelude.{option_to_list}
use Rattle.mintc_cells.specs.declared.cell.Cell.{Cell}
use Rattle.mintc_cells.specs.declared.cell.Cell.TheVariants.{Gate, Latch, Flop, Clock}
use Rattle.mintc_liberty_cell.specs.declared.parts.Parts.{Parts}
use Rattle.mintc_liberty_cell.specs.Meaning.{Pin, Group, pins_in, are_pins, keepers, by_keepers, kept, is_plain}
use Rattle.mintc_liberty_cell.specs.Seen.{pins_seen, group_seen}

-- the pins so far, and the group that keeps a state, if there is one
pub record Held : Type 0 where
  pub pins : List Pin
  pub keeper : Option Group

-- what is held of some parts
abbrev pub held : ℕ → Parts → Held
held room p = record { pins = pins_seen p.pins.items; keeper = option_map (group_seen room) p.keeper }

-- the cell of what is held and of more groups
abbrev pub cell_with : Held → List Group → Option Cell
cell_with h gs =
    if is_plain gs && are_pins (h.pins ++ pins_in gs)
    then kept (by_keepers (h.pins ++ pins_in gs) (option_to_list h.keeper ++ keepers gs))
    else None

-- the cell of what is held alone
abbrev pub cell_held : Held → Option Cell
cell_held h = by_keepers h.pins (option_to_list h.keeper)

-- what is left of a cell's rules where its pins are names, each once
abbrev pub is_between : ℕ → ℕ → List (List ℕ) → Bool
is_between least most names = nat_le least (length names) && nat_le (length names) most

-- as many outputs and other pins as the cell's kind may have
abbrev pub has_counts : Cell → Bool
has_counts (Gate inputs outputs min_delay max_delay) = is_between 0 64 inputs && is_between 1 16 outputs
has_counts (Latch pin_d pin_g high outputs ignored setup hold has_hold dq_min dq_max cq_min cq_max has_cq width) =
    is_between 1 2 outputs && is_between 0 64 ignored
has_counts (Flop pin_d pin_clock rising outputs ignored setup hold has_hold cq_min cq_max width) = is_between 1 2
    outputs && is_between 0 64 ignored
has_counts (Clock input output invert ignored) = is_between 0 64 ignored
