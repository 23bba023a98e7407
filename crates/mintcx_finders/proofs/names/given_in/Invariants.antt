use Rattle.std.proofs.Common.{◌-◌, length}
use Rattle.mintcx_finders.proofs.names.given_in.Given as goal

-- each turn goes on
abbrev pub decreases-loop-token : goal.decreases-loop-token
decreases-loop-token l = length l.text - l.at
