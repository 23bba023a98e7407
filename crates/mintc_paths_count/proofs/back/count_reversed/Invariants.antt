use Rattle.mintc_paths_count.proofs.back.count_reversed.Given as goal

abbrev pub ghost-count_along : goal.ghost-count_along
ghost-count_along g a = g.of
