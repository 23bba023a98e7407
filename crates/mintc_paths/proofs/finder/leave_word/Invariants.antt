use Rattle.std.proofs.Common.{◌-◌}
use Rattle.mintc_paths.proofs.finder.leave_word.Given as goal

abbrev pub invariant-loop-next : goal.invariant-loop-next
invariant-loop-next l = Unit {0}

abbrev pub decreases-loop-next : goal.decreases-loop-next
decreases-loop-next l = 64 - l.place
