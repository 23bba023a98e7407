use Rattle.std.proofs.Common.{[], arith}
use Rattle.std.proofs.lemmas.Grind.{common_steps}
use Rattle.mintc_certificate.specs.declared.certificate.Certificate.TheVariants.{Never}
use Rattle.mintc_certificate.proofs.reading.never.Goals as goal

pub returns-in_err-chain : goal.returns-in_err-chain
returns-in_err-chain c = λ text at. let told = c.in_err-chain.ensures text (Never []) at in grind (arith, common_steps)

pub returns : goal.returns
returns c = λ text at. c.in_ok-chain.ensures text (Never []) at
