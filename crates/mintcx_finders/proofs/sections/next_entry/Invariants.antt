use Rattle.std.proofs.Common.{◌≤◌, ◌-◌, length}
use Rattle.mintcx_finders.proofs.sections.next_entry.Given as goal

abbrev pub invariant-loop-line : goal.invariant-loop-line
invariant-loop-line l = l.from ≤ l.at

-- each turn goes on
abbrev pub decreases-loop-line : goal.decreases-loop-line
decreases-loop-line l = length l.body - l.at
