-- What the reader of certificates has read up to each line, and where it halts.
use Rattle.std.proofs.Common.{◌≡◌, ℕ, suc, ℤ, pos, neg_ℤ, ◌≤ℤ◌, List, [], ◌∷◌, ◌++◌, refl, arith, codes}
use Rattle.std.proofs.lemmas.Int.{ints}
use Rattle.mintc_text.specs.declared.limits.TheConstants.{MOST_NUMERATOR}
use Rattle.mintc_timing.specs.declared.clocking.Schedule.{Schedule}
use Rattle.mintc_timing_text.specs.Fields.{Spells, IsNumberLine}
use Rattle.mintc_timing_text.specs.Reading.{Reading, HasRead, HasNone, IsAt, number_after}
use Rattle.mintc_timing_text.proofs.SharedReadingLaws.{at_more, at_fault}
use Rattle.mintc_certificate.specs.declared.certificate.Certificate.{Certificate}
use Rattle.mintc_certificate.specs.declared.certificate.Certificate.TheVariants.{Least, Never}
use Rattle.mintc_certificate.specs.declared.members.Member.{Member}
use Rattle.mintc_certificate.specs.declared.version.Version.{Version}
use Rattle.mintc_certificate.specs.CertificateReading.{with_chain, before_chain}
use Rattle.mintc_certificate.specs.CertificateText.{NextOfCertificate, IsCertificateFault, CertificateLines, first, departure, link, least_departure, IsChainLine, IsMemberLine}

-- ---- its lists

-- the states of departures and of members
abbrev pub departure_states : Version → Schedule → ℕ → List ℤ → CertificateLines
departure_states v s left ds = departure v left s ds

abbrev pub member_states : Version → Certificate → ℕ → List Member → CertificateLines
member_states v c left ms = link v left (with_chain c ms)

abbrev pub IsDepartureLine : Version → ℤ → List (List ℕ) → Type 0
IsDepartureLine v = IsNumberLine (codes "departure") (least_departure v) MOST_NUMERATOR

pub least_is : (v : Version) → (neg_ℤ MOST_NUMERATOR ≤ℤ least_departure v) × (least_departure v ≤ℤ pos 0)
least_is v = grind (arith, ints)

-- In a run that takes so many members of a chain at most.
module _ (most : ℕ) where
  -- where a reader of a certificate is
  abbrev pub At : List ℕ → Reading → CertificateLines → Type 0
  At text reading state = IsAt (NextOfCertificate most) first text reading state

  pub chain_read : (text : List ℕ) (old new : Reading) (v : Version) (c : Certificate) (m : ℕ) → At text old (before_chain v c) → HasRead (IsChainLine most) old.left m new.left → new.number ≡ number_after old.number →
      At text new (link v m (with_chain c []))
  chain_read text old new v (Least s ds ms) m at read counted = at_more new (link v m (Least s ds [])) at read counted (λ line spells. (m, spells, refl))
  chain_read text old new v (Never ms) m at read counted = at_more new (link v m (Never [])) at read counted (λ line spells. (m, spells, refl))

  pub chain_fault : (text : List ℕ) (old : Reading) (number : ℕ) (v : Version) (c : Certificate) → At text old (before_chain v c) → HasNone (IsChainLine most) old.left → number ≡ number_after old.number → (IsCertificateFault most) text number
  chain_fault text old number v (Least s ds ms) at none counted = at_fault at none counted (λ e. e) (λ line after step. (step.0, step.1))
  chain_fault text old number v (Never ms) at none counted = at_fault at none counted (λ e. e) (λ line after step. (step.0, step.1))

  pub member_next : (v : Version) (c : Certificate) (m : Member) (left : ℕ) (ms : List Member) (line : List ℕ) → Spells (IsMemberLine v) m line → (NextOfCertificate most) (link v (suc left) (with_chain c ms)) line (link v left (with_chain c (ms ++ m ∷ [])))
  member_next v (Least s ds chain) m left ms line spells = (m, spells, refl)
  member_next v (Never chain) m left ms line spells = (m, spells, refl)
