use Rattle.std.proofs.Common.{◌≡◌, ◌++◌, true, length, map, option_map}
use Rattle.mintc_liberty_tokens.specs.Tokens.{is_item, names_in}
use Rattle.mintc_liberty_tokens.specs.Statements.{taken}
use Rattle.mintc_liberty_cell.specs.Passing.{value_bytes}
use Rattle.mintc_liberty_cell.specs.Meaning.{pin_with, are_pins}
use Rattle.mintc_liberty_cell.specs.Seen.{pins_seen}
use Rattle.mintc_liberty_cell.proofs.pins.add_pins.Given as goal

-- the pins that are added, and those that are left
abbrev pub invariant-loop-name : goal.invariant-loop-name
invariant-loop-name l = record {
  same : pins_seen l.initial.pins.items ++ map (pin_with l.role (option_map value_bytes l.function)) (names_in (taken is_item l.initial.items))
      ≡ pins_seen l.pins.items ++ map (pin_with l.role (option_map value_bytes l.function)) (names_in (taken is_item l.items));
  are : are_pins (pins_seen l.pins.items) ≡ true;
}

abbrev pub decreases-loop-name : goal.decreases-loop-name
decreases-loop-name l = length l.items
