use Rattle.mintcx_answers.proofs.jobs.cycle_rows.Goals as goal

pub cycle_csv-requires-clause-found : goal.cycle_csv-requires-clause-found
cycle_csv-requires-clause-found c = (c.args.cycle, c.in_ok-found.ensures.value)
