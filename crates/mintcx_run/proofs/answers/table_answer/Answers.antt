use Rattle.mintcx_run.proofs.answers.table_answer.Goals as goal

pub returns-clause-value : goal.returns-clause-value
returns-clause-value c = (c.in_ok-tabled.tabled, rw c.large.ensures at c.in_ok-tabled.ensures.value, c.in_ok-told_table.ensures.value)
