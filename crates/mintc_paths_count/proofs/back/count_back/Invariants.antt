use Rattle.std.proofs.Common.{reverse}
use Rattle.mintc_paths.specs.Ordered.{ordered}
use Rattle.mintc_paths.specs.Reversed.{reversed_design}
use Rattle.mintc_paths_count.proofs.back.count_back.Given as goal

abbrev pub ghost-count_reversed : goal.ghost-count_reversed
ghost-count_reversed a = ordered (reversed_design a.places.now.of_bits.items a.flat.now) (reverse a.order.now)
