use Rattle.std.proofs.Common.{◌≤◌, length}
use Rattle.mintcx_answers.proofs.subjects.name_start.Given as goal

-- the place is within the path
abbrev pub invariant-loop-start : goal.invariant-loop-start
invariant-loop-start l = l.start ≤ length l.path

abbrev pub decreases-loop-start : goal.decreases-loop-start
decreases-loop-start l = l.start
