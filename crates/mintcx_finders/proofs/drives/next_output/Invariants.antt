use Rattle.std.proofs.Common.{◌≤◌, ◌-◌, length}
use Rattle.mintcx_finders.proofs.drives.next_output.Given as goal

abbrev pub invariant-loop-connection : goal.invariant-loop-connection
invariant-loop-connection l = l.from ≤ l.at

-- each turn goes on
abbrev pub decreases-loop-connection : goal.decreases-loop-connection
decreases-loop-connection l = length l.text - l.at
