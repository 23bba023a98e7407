use Rattle.mintc_certificate.proofs.CertificatePlain.{certificate_texts}
use Rattle.mintc_certificate.proofs.text_laws.certificate_texts_are_plain.Goals as goal

pub returns-clause-value : goal.returns-clause-value
returns-clause-value c = λ most. (certificate_texts most).value

pub returns-clause-no_fault : goal.returns-clause-no_fault
returns-clause-no_fault c = λ most. (certificate_texts most).no_fault

pub returns-clause-fault : goal.returns-clause-fault
returns-clause-fault c = λ most. (certificate_texts most).fault
