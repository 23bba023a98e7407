use Rattle.mintc_command_answers.proofs.corners_answers.optimum_of.Given as goal

abbrev pub ghosts-certificate_from : goal.ghosts-certificate_from
ghosts-certificate_from a = record { name = a.blank.name; parts = a.blank.parts }
