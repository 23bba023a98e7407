use Rattle.std.proofs.Common.{◌≤◌, ◌-◌, length}
use Rattle.mintcx_finders.proofs.drives.next_assigned.Given as goal

abbrev pub invariant-loop-name : goal.invariant-loop-name
invariant-loop-name l = l.from ≤ l.at

-- each turn goes on
abbrev pub decreases-loop-name : goal.decreases-loop-name
decreases-loop-name l = length l.text - l.at
