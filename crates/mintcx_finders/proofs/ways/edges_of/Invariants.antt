use Rattle.std.proofs.Common.{◌-◌, length}
use Rattle.mintcx_finders.proofs.ways.edges_of.Given as goal

-- each turn goes on
abbrev pub decreases-loop-from : goal.decreases-loop-from
decreases-loop-from l = length l.text - l.from
