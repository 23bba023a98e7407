use Rattle.mintcx_answers.proofs.corners.joint_answer.Given as goal

abbrev pub ghosts-certificate_from : goal.ghosts-certificate_from
ghosts-certificate_from a = record { name = a.blank.name; parts = a.blank.parts }
