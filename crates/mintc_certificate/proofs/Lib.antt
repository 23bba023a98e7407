pub mod SharedWritingLaws
pub mod SharedPathDelays
mod OptimalLaws
mod MemberLaws
mod CertificateReading
mod CertificateLaws
mod CertificatePlain
mod CertificateSpelling
mod CertificateWritten
mod CertificateVersions
mod WorkedCertificate
mod MemberDeciding
mod CertificateEach
