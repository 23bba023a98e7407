use Rattle.mintc_paths.proofs.blocks.find_along.Given as goal

abbrev pub ghost-find_each : goal.ghost-find_each
ghost-find_each g a = g.of
