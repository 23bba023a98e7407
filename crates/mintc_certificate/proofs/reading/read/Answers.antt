use Rattle.mintc_certificate.specs.CertificateText.{NextOfCertificate, first}
use Rattle.mintc_timing_text.proofs.SharedReadingLaws.{at_start}
use Rattle.mintc_certificate.proofs.CertificateLaws.{IsCertificateInRange-from_text}
use Rattle.mintc_certificate.proofs.reading.read.Goals as goal

pub returns-in-Ok-clause-in_range : goal.returns-in-Ok-clause-in_range
returns-in-Ok-clause-in_range c =
    let text = c.args.text.now in
    IsCertificateInRange-from_text c.args.limits.now.members text c.in-Ok.certificate
    (c.in-Ok.ensures text (at_start (NextOfCertificate c.args.limits.now.members) first text c.new-reader.result c.requires c.new-reader.ensures.left c.new-reader.ensures.number))
