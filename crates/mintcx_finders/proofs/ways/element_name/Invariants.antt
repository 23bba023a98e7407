use Rattle.std.proofs.Common.{◌-◌, length}
use Rattle.mintcx_finders.proofs.ways.element_name.Given as goal

-- each turn goes on
abbrev pub decreases-loop-from : goal.decreases-loop-from
decreases-loop-from l = length l.text - l.from
