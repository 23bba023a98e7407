use Rattle.std.proofs.Common.{◌-◌, length}
use Rattle.mintcx_finders.proofs.cells.names_of.Given as goal

-- each turn goes on
abbrev pub decreases-loop-line : goal.decreases-loop-line
decreases-loop-line l = length l.text - l.at
