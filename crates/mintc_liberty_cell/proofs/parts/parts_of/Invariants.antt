use Rattle.std.proofs.Common.{◌≡◌, ◌-◌, true, length}
use Rattle.mintc_liberty_tokens.specs.Statements.{front}
use Rattle.mintc_liberty_cell.specs.Meaning.{groups, cell_of, are_pins}
use Rattle.mintc_liberty_cell.specs.Seen.{pins_seen}
use Rattle.mintc_liberty_cell.specs.Held.{held, cell_with}
use Rattle.mintc_liberty_cell.proofs.parts.parts_of.Given as goal

-- the cell is that of what is held and of the groups that are left
abbrev pub invariant-loop-group : goal.invariant-loop-group
invariant-loop-group l = record {
  same : cell_of (front l.room l.inside).statements ≡ cell_with (held (l.room - 1) l.parts) (groups (front l.room l.reader).statements);
  are : are_pins (pins_seen l.parts.pins.items) ≡ true;
}

abbrev pub decreases-loop-group : goal.decreases-loop-group
decreases-loop-group l = length l.reader
