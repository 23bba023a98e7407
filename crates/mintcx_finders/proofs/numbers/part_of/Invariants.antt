use Rattle.std.proofs.Common.{◌-◌, length}
use Rattle.mintcx_finders.proofs.numbers.part_of.Given as goal

-- each turn goes on
abbrev pub decreases-loop-from : goal.decreases-loop-from
decreases-loop-from l = length l.bytes - l.from
