use Rattle.std.proofs.Common.{take}
use Rattle.mintc_report.specs.Answers.{AppendsViolations}
use Rattle.mintc_report.proofs.fail.put_violations.Given as goal

-- the lines so far are written
abbrev pub invariant-loop-violation : goal.invariant-loop-violation
invariant-loop-violation l = AppendsViolations l.pairs l.den (take l.violation-index l.violations) l.fn.lines l.lines
