use Rattle.std.proofs.Common.{arith}
use Rattle.std.proofs.lemmas.Grind.{common_steps}
use Rattle.mintc_corners.proofs.searching.corners.Goals as goal

pub certificate-requires-clause-alike : goal.certificate-requires-clause-alike
certificate-requires-clause-alike c = grind (arith, common_steps)

pub certificate-requires-clause-kept : goal.certificate-requires-clause-kept
certificate-requires-clause-kept c = grind (arith, common_steps)
