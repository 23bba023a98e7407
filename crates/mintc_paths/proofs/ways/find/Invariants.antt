use Rattle.mintc_paths.specs.Ordered.{ordered}
use Rattle.mintc_paths.proofs.ways.find.Given as goal

abbrev pub ghost-find_forward : goal.ghost-find_forward
ghost-find_forward a = ordered a.flat.now a.order.now
