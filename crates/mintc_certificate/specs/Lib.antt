-- What contracts of public calls and laws say:
pub mod CertificateText
pub mod Ranges
pub mod Written
pub mod Valid
pub mod Optimal
pub mod TextLaws
-- What only the proofs need:
pub mod MemberWords
pub mod CertificateReading
