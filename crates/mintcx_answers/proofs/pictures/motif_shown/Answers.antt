use Rattle.mintcx_answers.proofs.pictures.motif_shown.Goals as goal

pub returns-in-Slacks-clause-stop : goal.returns-in-Slacks-clause-stop
returns-in-Slacks-clause-stop c = rw c.in-Slacks.is (c.slacks_within.ensures.stop c.args.file.now)
