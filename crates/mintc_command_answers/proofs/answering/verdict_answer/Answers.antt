use Rattle.std.proofs.Common.{◌∙◌}
use Rattle.std.proofs.lemmas.Result.{err_from_is_err_and}
use Rattle.mintc_command_answers.specs.declared.command.Job.TheVariants.{Verify}
use Rattle.mintc_command_answers.proofs.SharedStopLaws.{stop_on_source}
use Rattle.mintc_command_answers.proofs.VerdictLaws.{answer_on_ordered, refusal_on_ordered, short_paths}
use Rattle.mintc_command_answers.proofs.answering.verdict_answer.Goals as goal

pub verify_answer-requires-clause-order : goal.verify_answer-requires-clause-order
verify_answer-requires-clause-order c = c.in_ok-flat.ensures.value.ordered

pub verify_answer-requires-clause-short : goal.verify_answer-requires-clause-short
verify_answer-requires-clause-short c = short_paths c.args.limits.now c.args.source c.args.texts.now c.in_ok-flat.field-0.flat c.in_ok-flat.field-0.order c.in_ok-flat.ensures.value

pub returns-in_err-flat-clause-stop : goal.returns-in_err-flat-clause-stop
returns-in_err-flat-clause-stop c =
    let p = err_from_is_err_and c.from_residual.result c.from_residual.ensures.1 in
    rw (p.1, p.2) (stop_on_source c.args.limits.now Verify c.args.source c.args.texts.now c.in_err-flat.field-0.0 c.in_err-flat.ensures.stop)

pub returns-clause-value : goal.returns-clause-value
returns-clause-value c =
    answer_on_ordered c.args.limits.now c.verify_answer.result c.args.source c.args.texts.now c.in_ok-flat.field-0.flat c.in_ok-flat.field-0.order c.own_file.result.now c.in_ok-flat.ensures.value (c.own_file.ensures.value ∙ c.in_ok-flat.ensures.own) c.verify_answer.ensures.value

pub returns-clause-stop : goal.returns-clause-stop
returns-clause-stop c =
    refusal_on_ordered c.args.limits.now c.verify_answer.result c.args.source c.args.texts.now c.in_ok-flat.field-0.flat c.in_ok-flat.field-0.order c.own_file.result.now c.in_ok-flat.ensures.value (c.own_file.ensures.value ∙ c.in_ok-flat.ensures.own) c.verify_answer.ensures.stop
