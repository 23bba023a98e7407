use Rattle.std.proofs.Common.{◌≡◌, ◌≤◌, ◌+◌, ◌-◌, take}
use Rattle.mintcx_places.specs.Lines.{IsLine, feeds}
use Rattle.mintcx_places.proofs.lines.line_around.Given as goal

-- a line that begins at or before the place
abbrev pub invariant-loop-end : goal.invariant-loop-end
invariant-loop-end l = record {
  line : IsLine l.text l.from l.end;
  number : l.number ≡ feeds (take l.from l.text) + 1;
  above : l.from ≤ l.at;
}

abbrev pub decreases-loop-end : goal.decreases-loop-end
decreases-loop-end l = l.at - l.end
