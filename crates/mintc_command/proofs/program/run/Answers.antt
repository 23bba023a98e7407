use Rattle.mintc_command.proofs.program.run.Goals as goal

pub returns-clause-complete : goal.returns-clause-complete
returns-clause-complete g c = rw c.usual.ensures at c.run_within.ensures.complete
