use Rattle.mintc_report.proofs.AnswerLaws.{AppendsViolations-more}
use Rattle.mintc_report.proofs.fail.put_violations.Goals as goal

pub loop-violation-preserved : goal.loop-violation-preserved
loop-violation-preserved c =
    AppendsViolations-more _ _ _ _ _ _ _ _ c.loop-violation.invariant c.loop-violation-test.true c.violation-item.is c.in_ok-put_violation.ensures
