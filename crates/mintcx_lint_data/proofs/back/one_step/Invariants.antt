use Rattle.std.proofs.Common.{◌-◌, drop, length}
use Rattle.mintcx_lint_data.specs.Back.{AreBack}
use Rattle.mintcx_lint_data.proofs.back.one_step.Given as goal

-- one step back along the joins from the last one on
abbrev pub invariant-loop-at : goal.invariant-loop-at
invariant-loop-at l = AreBack (drop (length l.joins - l.at) l.joins) 1 l.bits l.found.items
