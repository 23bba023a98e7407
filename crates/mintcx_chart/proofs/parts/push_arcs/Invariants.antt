use Rattle.std.proofs.Common.{◌*◌, pos, neg_ℤ, ◌+ℤ◌, ◌-ℤ◌, ◌≤ℤ◌}
use Rattle.mintcx_chart.proofs.parts.push_arcs.Given as goal

-- data is not far from where it begins
abbrev pub invariant-loop-number : goal.invariant-loop-number
invariant-loop-number l = record {
  low : (l.begin -ℤ pos (l.number-index * 400000000000000)) ≤ℤ l.at;
  high : l.at ≤ℤ (l.begin +ℤ pos (l.number-index * 400000000000000));
}
