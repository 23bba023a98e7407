use Rattle.std.proofs.Common.{reverse}
use Rattle.mintc_paths.specs.Ordered.{ordered}
use Rattle.mintc_paths.specs.Reversed.{reversed_design}
use Rattle.mintc_paths.proofs.back.find_backward.Given as goal

abbrev pub ghost-find_reversed : goal.ghost-find_reversed
ghost-find_reversed a = ordered (reversed_design a.places.now.of_bits.items a.flat.now) (reverse a.order.now)
