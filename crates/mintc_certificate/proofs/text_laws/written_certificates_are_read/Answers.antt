use Rattle.mintc_certificate.proofs.CertificateWritten.{written_texts}
use Rattle.mintc_certificate.proofs.text_laws.written_certificates_are_read.Goals as goal

pub returns-clause-read : goal.returns-clause-read
returns-clause-read c = λ most. (written_texts most).read

pub returns-clause-only : goal.returns-clause-only
returns-clause-only c = λ most. (written_texts most).only

pub returns-clause-apart : goal.returns-clause-apart
returns-clause-apart c = λ most. (written_texts most).apart
