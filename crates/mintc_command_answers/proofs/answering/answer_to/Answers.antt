use Rattle.std.proofs.Common.{◌∙◌}
use Rattle.mintc_command_answers.proofs.AnswerLaws.{sampled}
use Rattle.mintc_command_answers.proofs.answering.answer_to.Goals as goal

pub returns-in_ok-texts-in-Sample-clause-defined : goal.returns-in_ok-texts-in-Sample-clause-defined
returns-in_ok-texts-in-Sample-clause-defined c =
    sampled c.args.limits.now c.answer_on-in-Sample.result c.args.command c.in-Sample.number c.args.files.now c.as_mut_slice.result.now c.in-Sample.is
    (c.as_mut_slice.ensures.value ∙ c.in_ok-texts-in-Sample.ensures) c.answer_on-in-Sample.ensures.value
