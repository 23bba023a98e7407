use Rattle.mintc_command_answers.proofs.VerdictLaws.{answer_on_system}
use Rattle.mintc_command_answers.proofs.answering.job_answer.Goals as goal

pub returns-in-Verify-clause-value : goal.returns-in-Verify-clause-value
returns-in-Verify-clause-value c =
    answer_on_system c.args.limits.now c.verify_answer.result c.args.job c.args.system.now c.flat.result.now c.args.file.now c.in-Verify.is c.flat.ensures.value c.flat.ensures.kept.extremes
    c.verify_answer.ensures.value

pub returns-in-Slack-clause-value : goal.returns-in-Slack-clause-value
returns-in-Slack-clause-value c = rw c.in-Slack.is (c.slack_answer.ensures.value c.args.file.now)

pub returns-in-Slack-clause-stop : goal.returns-in-Slack-clause-stop
returns-in-Slack-clause-stop c = rw c.in-Slack.is (c.slack_answer.ensures.stop c.args.file.now)
