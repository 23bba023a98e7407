use Rattle.mintc_command_answers.proofs.optimise_answers.optimum.Given as goal

abbrev pub ghosts-optimum_from : goal.ghosts-optimum_from
ghosts-optimum_from a = record { name = a.blank.name; parts = a.blank.parts }
