use Rattle.std.proofs.Common.{◌-◌, length}
use Rattle.mintcx_finders.proofs.sections.first_entry.Given as goal

-- each turn goes on
abbrev pub decreases-loop-entry : goal.decreases-loop-entry
decreases-loop-entry l = length l.body - l.from
