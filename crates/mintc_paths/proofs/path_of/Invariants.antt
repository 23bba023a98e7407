use Rattle.mintc_paths.specs.Ordered.{ordered}
use Rattle.mintc_paths.proofs.path_of.Given as goal

abbrev pub ghost-best_path : goal.ghost-best_path
ghost-best_path a = ordered a.system.now.flat a.system.now.order
