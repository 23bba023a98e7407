use Rattle.std.proofs.Common.{◌≤◌, ◌-◌, length}
use Rattle.mintcx_finders.proofs.connections.next_dot.Given as goal

abbrev pub invariant-loop-token : goal.invariant-loop-token
invariant-loop-token l = l.from ≤ l.at

-- each turn goes on
abbrev pub decreases-loop-token : goal.decreases-loop-token
decreases-loop-token l = length l.text - l.at
