use Rattle.std.proofs.Common.{◌-◌, length}
use Rattle.mintcx_finders.proofs.names.add_names.Given as goal

-- each turn goes on
abbrev pub decreases-loop-name : goal.decreases-loop-name
decreases-loop-name l = length l.text - l.at
