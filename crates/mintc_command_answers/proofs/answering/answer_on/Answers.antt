use Rattle.mintc_command_answers.specs.Answers.{IsContentRefusal}
use Rattle.mintc_command_answers.specs.declared.command.Command.TheVariants.{OfDesign, Sample}
use Rattle.mintc_command_answers.proofs.AnswerLaws.{refused_content, refused_length, stopped}
use Rattle.mintc_command_answers.proofs.answering.answer_on.Goals as goal
use Rattle.mintc_command_answers.proofs.answering.answer_on.Goals.{in-OfDesign, in-Sample}

pub returns-in-Some-clause-value : goal.returns-in-Some-clause-value
returns-in-Some-clause-value c =
    refused_length c.args.limits.now c.refusal_answer.result c.args.command c.args.texts.now c.content_roles.result.now c.in-Some.refusal c.content_roles.ensures c.in-Some.ensures c.refusal_answer.ensures.status c.refusal_answer.ensures.text

pub returns-in-Err-Refused-clause-value : goal.returns-in-Err-Refused-clause-value
returns-in-Err-Refused-clause-value c =
    elim c.match-command.branch [
      | in-OfDesign w ↦
          let own = OfDesign w.in-OfDesign.job w.in-OfDesign.source in
          let refused = stopped (λ r. IsContentRefusal c.args.limits.now own c.args.texts.now r) c.match-command.answer w.design_answer-answer.result c.in-Err-Refused.field-0 c.in-Err-Refused.refusal
          w.answer-is c.in-Err-Refused.is c.in-Err-Refused.field-0-is w.design_answer-answer.ensures.stop in
          refused_content c.args.limits.now c.refusal_answer-in-Err-Refused.result c.args.command own c.args.texts.now c.in-Err-Refused.refusal (λ text line. line) w.in-OfDesign.is c.in_default.ensures refused
          c.refusal_answer-in-Err-Refused.ensures.status c.refusal_answer-in-Err-Refused.ensures.text
      | in-Sample w ↦
          let own = Sample w.in-Sample.number in
          let refused = stopped (λ r. IsContentRefusal c.args.limits.now own c.args.texts.now r) c.match-command.answer w.sample_answer-answer.result c.in-Err-Refused.field-0 c.in-Err-Refused.refusal
          w.answer-is c.in-Err-Refused.is c.in-Err-Refused.field-0-is w.sample_answer-answer.ensures.stop in
          refused_content c.args.limits.now c.refusal_answer-in-Err-Refused.result c.args.command own c.args.texts.now c.in-Err-Refused.refusal (λ text line. line) w.in-Sample.is c.in_default.ensures refused
          c.refusal_answer-in-Err-Refused.ensures.status c.refusal_answer-in-Err-Refused.ensures.text
    ]
