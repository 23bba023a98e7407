-- What the reader of certificates has before a chain.
use Rattle.std.specs.Prelude.{List}
use Rattle.mintc_certificate.specs.declared.certificate.Certificate.{Certificate}
use Rattle.mintc_certificate.specs.declared.certificate.Certificate.TheVariants.{Least, Never}
use Rattle.mintc_certificate.specs.declared.members.Member.{Member}
use Rattle.mintc_certificate.specs.declared.version.Version.{Version}
use Rattle.mintc_certificate.specs.CertificateText.{CertificateLines, departure, never}

-- the certificate with this chain
abbrev pub with_chain : Certificate → List Member → Certificate
with_chain (Least schedule departures chain) members = Least schedule departures members
with_chain (Never chain) members = Never members

-- what is known before the lines of a certificate's chain
abbrev pub before_chain : Version → Certificate → CertificateLines
before_chain v (Least schedule departures chain) = departure v 0 schedule departures
before_chain v (Never chain) = never v
