use Rattle.mintc_tests_search.proofs.slack.slacks_of.Given as goal

abbrev pub ghosts-found : goal.ghosts-found
ghosts-found a = record { name = a.blank.name; parts = a.blank.parts }
