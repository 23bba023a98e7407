use Rattle.mintc_tests_search.proofs.optimise.bench_solves_twice.Given as goal

abbrev pub ghosts-solved_twice : goal.ghosts-solved_twice
ghosts-solved_twice g a = record { name = a.blank.name; parts = a.blank.parts }
