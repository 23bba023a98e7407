use Rattle.mintcx_answers.proofs.jobs.safe_answer.Given as goal

abbrev pub ghosts-safe_from : goal.ghosts-safe_from
ghosts-safe_from a = record { name = a.blank.name; parts = a.blank.parts }
