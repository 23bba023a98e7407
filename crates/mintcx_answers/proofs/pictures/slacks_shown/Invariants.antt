use Rattle.mintcx_answers.proofs.pictures.slacks_shown.Given as goal

abbrev pub ghosts-slacks_from : goal.ghosts-slacks_from
ghosts-slacks_from a = record { name = a.blank.name; parts = a.blank.parts }
