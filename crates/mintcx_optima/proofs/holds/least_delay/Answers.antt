use Rattle.std.proofs.Common.{arith}
use Rattle.std.proofs.lemmas.Int.{ints}
use Rattle.mintcx_optima.proofs.HoldLaws.{least_more}
use Rattle.mintcx_optima.proofs.holds.least_delay.Goals as goal

pub loop-number-preserved : goal.loop-number-preserved
loop-number-preserved c = grind (arith, ints, least_more)
