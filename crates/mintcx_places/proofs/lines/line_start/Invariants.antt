use Rattle.std.proofs.Common.{◌≡◌, ◌≤◌, ◌+◌, length, take}
use Rattle.mintcx_places.specs.Lines.{Begins, feeds}
use Rattle.mintcx_places.proofs.lines.line_start.Given as goal

-- so many lines are passed
abbrev pub invariant-loop-passed : goal.invariant-loop-passed
invariant-loop-passed l = record {
  begins : Begins l.text l.from;
  within : l.from ≤ length l.text;
  count : l._passed ≡ feeds (take l.from l.text) + 1;
}
