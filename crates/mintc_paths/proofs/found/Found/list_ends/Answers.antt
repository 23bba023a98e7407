use Rattle.std.proofs.Common.{arith}
use Rattle.std.proofs.lemmas.Grind.{common_steps}
use Rattle.mintc_paths.proofs.found.Found.list_ends.Goals as goal

pub at-requires : goal.at-requires
at-requires c = grind (arith, common_steps)
