use Rattle.mintc_paths_count.proofs.count.count_along.Given as goal

abbrev pub ghost-count_each : goal.ghost-count_each
ghost-count_each g a = g.of
