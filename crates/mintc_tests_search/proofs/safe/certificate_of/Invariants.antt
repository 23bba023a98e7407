use Rattle.mintc_tests_search.proofs.safe.certificate_of.Given as goal

abbrev pub ghosts-found : goal.ghosts-found
ghosts-found g a = record { name = a.blank.name; parts = a.blank.parts }
