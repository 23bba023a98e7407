use Rattle.mintcx_answers.specs.Answers.{name_beside}
use Rattle.mintcx_run.proofs.answers.picture_answer.Goals as goal

pub returns-clause-value : goal.returns-clause-value
returns-clause-value c =
    (name_beside c.items.result.now, c.in_ok-pictured.pictured, rw c.large-limits.ensures at c.in_ok-pictured.ensures.value, c.in_ok-told_picture.ensures.value)
