use Rattle.mintc_existence.proofs.VerdictLaws.{verifications_have_answers_lem}
use Rattle.mintc_existence.proofs.laws.verifications_have_answers.Goals as goal

pub returns : goal.returns
returns c = verifications_have_answers_lem c.texts_have_certificates_or_refusals.ensures
