use Rattle.mintc_paths.proofs.back.find_reversed.Given as goal

abbrev pub ghost-find_along : goal.ghost-find_along
ghost-find_along g a = g.of
