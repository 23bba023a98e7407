use Rattle.std.proofs.Common.{◌-◌, length}
use Rattle.mintcx_finders.proofs.drives.add_driven.Given as goal

-- each turn goes on
abbrev pub decreases-loop-drive : goal.decreases-loop-drive
decreases-loop-drive l = length l.text - l.at
