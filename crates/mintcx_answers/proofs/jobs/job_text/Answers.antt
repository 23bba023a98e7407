use Rattle.mintcx_answers.proofs.jobs.job_text.Goals as goal

pub returns-in-Slack-clause-value : goal.returns-in-Slack-clause-value
returns-in-Slack-clause-value c = rw c.in-Slack.is (c.slack_answer.ensures.value c.args.work.now.beside.now c.args.file.now)

pub returns-in-Slack-clause-stop : goal.returns-in-Slack-clause-stop
returns-in-Slack-clause-stop c = rw c.in-Slack.is (c.slack_answer.ensures.stop c.args.file.now)
