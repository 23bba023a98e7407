use Rattle.std.proofs.Common.{◌≤◌, pos, ◌≤ℤ◌}
use Rattle.mintcx_chart.proofs.axis.step_of.Given as goal

-- the round number so far is in its range
abbrev pub invariant-loop : goal.invariant-loop
invariant-loop l = record {
  some : pos 1 ≤ℤ l.round.power;
  few : l.round.power ≤ℤ pos 1000000000000000000;
  least : 1 ≤ l.round.digit;
  most : l.round.digit ≤ 5;
}
