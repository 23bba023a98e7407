use Rattle.std.proofs.Common.{◌-◌, length}
use Rattle.mintcx_finders.proofs.hierarchy.modules_of.Given as goal

-- each turn goes on
abbrev pub decreases-loop-first : goal.decreases-loop-first
decreases-loop-first l = length l.text - l.from
