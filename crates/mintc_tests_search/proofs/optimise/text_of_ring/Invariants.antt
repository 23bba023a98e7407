use Rattle.mintc_tests_search.proofs.optimise.text_of_ring.Given as goal

abbrev pub ghosts-optimum_text : goal.ghosts-optimum_text
ghosts-optimum_text g a = record { name = a.blank.name; parts = a.blank.parts }
