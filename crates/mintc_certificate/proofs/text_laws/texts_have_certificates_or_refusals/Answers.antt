use Rattle.mintc_certificate.proofs.CertificateEach.{have_certificate_or_refusal}
use Rattle.mintc_certificate.proofs.text_laws.texts_have_certificates_or_refusals.Goals as goal

pub returns : goal.returns
returns c = λ most. have_certificate_or_refusal most
