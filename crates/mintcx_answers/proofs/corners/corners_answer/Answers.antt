use Rattle.mintcx_answers.proofs.CornerLaws.{of_first, of_many}
use Rattle.mintcx_answers.proofs.corners.corners_answer.Goals as goal

pub returns-in-Err-Refused-clause-stop : goal.returns-in-Err-Refused-clause-stop
returns-in-Err-Refused-clause-stop c =
    let first = rw c.in-Err-Refused.field-0-is at c.in-Err-Refused.ensures.stop in
    rw c.in-Err-Refused.field-0-is (of_first c.args.limits.now c.args.count c.args.texts.now c.in-Err-Refused.corner _ c.requires.short first, first)

pub returns-in-Err-TooMany-clause-stop : goal.returns-in-Err-TooMany-clause-stop
returns-in-Err-TooMany-clause-stop c =
    rw c.in-Err-TooMany.field-0-is (of_many c.args.limits.now c.args.count c.args.texts.now _ c.requires.short (rw c.in-Err-TooMany.field-0-is at c.in-Err-TooMany.ensures.stop))
