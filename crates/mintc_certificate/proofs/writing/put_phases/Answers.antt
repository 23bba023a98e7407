use Rattle.std.proofs.Common.{arith}
use Rattle.mintc_certificate.proofs.SharedWritingLaws.{one_more}
use Rattle.mintc_certificate.proofs.writing.put_phases.Goals as goal

pub loop-index-preserved : goal.loop-index-preserved
loop-index-preserved c = grind (arith, one_more)
