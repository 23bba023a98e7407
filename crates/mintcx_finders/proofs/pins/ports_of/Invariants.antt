use Rattle.std.proofs.Common.{◌-◌, length}
use Rattle.mintcx_finders.proofs.pins.ports_of.Given as goal

-- each turn goes on
abbrev pub decreases-loop-port : goal.decreases-loop-port
decreases-loop-port l = length l.text - l.at
