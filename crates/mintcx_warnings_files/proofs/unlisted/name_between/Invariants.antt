use Rattle.std.proofs.Common.{◌-◌, length}
use Rattle.mintcx_warnings_files.proofs.unlisted.name_between.Given as goal

-- each turn goes on
abbrev pub decreases-loop-token : goal.decreases-loop-token
decreases-loop-token l = length l.text - l.at
