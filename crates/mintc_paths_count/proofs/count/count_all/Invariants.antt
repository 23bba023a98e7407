use Rattle.mintc_paths.specs.Ordered.{ordered}
use Rattle.mintc_paths_count.proofs.count.count_all.Given as goal

abbrev pub ghost-count_forward : goal.ghost-count_forward
ghost-count_forward a = ordered a.flat.now a.order.now
