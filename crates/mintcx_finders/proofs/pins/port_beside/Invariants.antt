use Rattle.std.proofs.Common.{◌-◌, length}
use Rattle.mintcx_finders.proofs.pins.port_beside.Given as goal

-- each turn goes on
abbrev pub decreases-loop-connection : goal.decreases-loop-connection
decreases-loop-connection l = length l.text - l.at
