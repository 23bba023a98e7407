use Rattle.std.proofs.Common.{take}
use Rattle.mintcx_answers.specs.Clocks.{AreHolds}
use Rattle.mintcx_answers.proofs.clocks.are_holds.Given as goal

-- those so far are holds
abbrev pub invariant-loop-violation : goal.invariant-loop-violation
invariant-loop-violation l = AreHolds (take l.violation-index l.violations)
