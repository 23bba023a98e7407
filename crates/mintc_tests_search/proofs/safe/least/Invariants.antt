use Rattle.mintc_tests_search.proofs.safe.least.Given as goal

abbrev pub ghosts-optimum : goal.ghosts-optimum
ghosts-optimum g a = record { name = a.blank.name; parts = a.blank.parts }
