use Rattle.std.proofs.Common.{◌≤◌, ◌-◌, ◌+◌}
use Rattle.mintcx_finders.proofs.fields.field_fault.Given as goal

abbrev pub invariant-loop-before : goal.invariant-loop-before
invariant-loop-before l = record {
  within : l.before.to ≤ l.line.to;
  few : l.number ≤ l.before.to + 1;
}

-- each turn goes on
abbrev pub decreases-loop-before : goal.decreases-loop-before
decreases-loop-before l = l.line.to - l.before.to
