use Rattle.mintc_existence.proofs.VerdictLaws.{certificates_have_verdicts_lem}
use Rattle.mintc_existence.proofs.laws.certificates_have_verdicts.Goals as goal

pub returns : goal.returns
returns c = certificates_have_verdicts_lem
