-- What the pins and groups that code reads stand for.
use Rattle.std.specs.Prelude.{ℕ, List, map, Some, option_map}
use Rattle.mintc_liberty_cell.specs.declared.pins.Pin.{Pin as PinRead}
use Rattle.mintc_liberty_cell.specs.declared.groups.Group.{Group as GroupRead}
use Rattle.mintc_liberty_tokens.specs.Tokens.{is_item}
use Rattle.mintc_liberty_tokens.specs.Statements.{taken, front}
use Rattle.mintc_liberty_cell.specs.Passing.{value_bytes}
use Rattle.mintc_liberty_cell.specs.Meaning.{Pin, Group, pin_with}

-- the pin that one stands for, which has a role
abbrev pub pin_seen : PinRead → Pin
pin_seen p = pin_with (Some p.role) (option_map value_bytes p.function) p.name.now

-- the pins that some stand for
abbrev pub pins_seen : List PinRead → List Pin
pins_seen ps = map pin_seen ps

-- a group in which groups nest so deep
abbrev pub group_seen : ℕ → GroupRead → Group
group_seen room g = record {
  name = g.name.now;
  items = taken is_item g.items;
  inner = (front room g.inside).statements;
}
