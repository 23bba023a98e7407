use Rattle.mintc_paths.proofs.route.best_path.Given as goal

abbrev pub ghost-fill : goal.ghost-fill
ghost-fill g a = g.of
