use Rattle.mintc_certificate.proofs.CertificateVersions.{canonical_texts}
use Rattle.mintc_certificate.proofs.text_laws.certificate_texts_are_canonical.Goals as goal

pub returns-clause-one : goal.returns-clause-one
returns-clause-one c = λ most. (canonical_texts most).one

pub returns-clause-versions : goal.returns-clause-versions
returns-clause-versions c = λ most. (canonical_texts most).versions
