-- Certificates whose numbers and counts are in their ranges.
use Rattle.std.specs.Prelude.{◌≤◌, ℤ, neg_ℤ, List, length, All}
use Rattle.mintc_text.specs.declared.limits.TheConstants.{MOST_NUMERATOR, MOST_MEMBERS}
use Rattle.mintc_text.specs.Lines.{IsWithin}
use Rattle.mintc_timing.specs.declared.clocking.Schedule.{Schedule}
use Rattle.mintc_timing.specs.Limits.{IsInRange}
use Rattle.mintc_timing_text.specs.Fields.{IsCount}
use Rattle.mintc_certificate.specs.declared.members.Member.{Member}
use Rattle.mintc_certificate.specs.declared.certificate.Certificate.{Certificate}
use Rattle.mintc_certificate.specs.declared.certificate.Certificate.TheVariants.{Least, Never}
use Rattle.mintc_certificate.specs.CertificateText.{IsCounted}

-- a departure as a certificate can say it, a numerator over the schedule's denominator
abbrev pub IsDeparture : ℤ → Type 0
IsDeparture d = IsWithin (neg_ℤ MOST_NUMERATOR) MOST_NUMERATOR d

-- from 1 to 32,768 members, each number of which is a count
pub record IsChainInRange (chain : List Member) : Type 0 where
  pub some : 1 ≤ length chain
  pub most : length chain ≤ MOST_MEMBERS
  pub each : All IsCounted chain

-- a schedule, departures and a chain that a text can say
pub record IsLeastInRange (schedule : Schedule) (departures : List ℤ) (chain : List Member) : Type 0 where
  pub schedule_in : IsInRange schedule
  pub count : IsCount (length departures)
  pub each : All IsDeparture departures
  pub chain_in : IsChainInRange chain

-- The certificate's numbers are those that the second version of a text can say.
abbrev pub IsCertificateInRange : Certificate → Type 0
IsCertificateInRange (Least schedule departures chain) = IsLeastInRange schedule departures chain
IsCertificateInRange (Never chain) = IsChainInRange chain
