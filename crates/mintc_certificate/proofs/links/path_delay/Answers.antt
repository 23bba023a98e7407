use Rattle.std.proofs.Common.{arith}
use Rattle.std.proofs.lemmas.Int.{ints}
use Rattle.mintc_certificate.proofs.SharedPathDelays.{delay_more}
use Rattle.mintc_certificate.proofs.links.path_delay.Goals as goal

pub loop-number-preserved : goal.loop-number-preserved
loop-number-preserved c = grind (arith, ints, delay_more)
