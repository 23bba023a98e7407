use Rattle.mintcx_run.proofs.answers.clocks_answer.Goals as goal

pub returns-clause-value : goal.returns-clause-value
returns-clause-value c = (c.in_ok-titles.titles, c.in_ok-clocks.clocks, rw c.large.ensures at c.in_ok-clocks.ensures.value, c.in_ok-told_of.ensures.value)
