-- Each text is a certificate's, or is refused for its first line out of form.
use Rattle.std.proofs.Common.{ℕ, zero, suc, Bool, cond, List, [], ◌∷◌, ◌++◌, codes, min, refl, inl, inr, ⊎_elim}
use Rattle.mintc_text.specs.declared.limits.TheConstants.{MOST_NUMERATOR, MOST_MEMBERS, MOST_COUNT}
use Rattle.mintc_text.specs.Lines.{IsText}
use Rattle.mintc_text.specs.declared.refusals.Refusal.TheVariants as refusal
use Rattle.mintc_text.specs.declared.refusals.Role.TheVariants as role
use Rattle.mintc_timing.specs.declared.clocking.Schedule.{Schedule}
use Rattle.mintc_timing_text.specs.Fields.{Spells, IsWordLine, IsNumberLine, IsCountLine}
use Rattle.mintc_timing_text.specs.Texts.{den}
use Rattle.mintc_timing_text.proofs.SharedDeciding.{Decided, searched_bool}
use Rattle.mintc_timing_text.proofs.SharedEachText.{judged, after_spelled, spelled_by}
use Rattle.mintc_timing_text.proofs.SharedFormDeciding.{Anything, anything, word_decided, number_decided, count_decided, schedule_decided}
use Rattle.mintc_certificate.specs.declared.certificate.Certificate.{Certificate}
use Rattle.mintc_certificate.specs.declared.certificate.Certificate.TheVariants.{Least, Never}
use Rattle.mintc_certificate.specs.declared.version.Version.{Version}
use Rattle.mintc_certificate.specs.CertificateText.{CertificateLines, first, outcome, scheduled, departure, never, link, whole, NextOfCertificate, IsWholeCertificate}
use Rattle.mintc_certificate.specs.CertificateText.{version_of, least_departure, with_member, IsOutcomeLine, IsChainLine, IsDeparturesLine, IsMemberLine}
use Rattle.mintc_certificate.specs.CertificateText.{IsCertificateText, IsCertificateFault}
use Rattle.mintc_certificate.specs.TextLaws.{HaveCertificateOrRefusal}
use Rattle.mintc_certificate.proofs.MemberDeciding.{member_decided}

ends : (a : CertificateLines) → Decided (IsWholeCertificate a)
ends first = inr (λ h. h)
ends (outcome v) = inr (λ h. h)
ends (scheduled v lines) = inr (λ h. h)
ends (departure v left s ds) = inr (λ h. h)
ends (never v) = inr (λ h. h)
ends (link v left c) = inr (λ h. h)
ends (whole c) = inl tt

outcome_decided : (line : List ℕ) → Decided ((least : Bool) × Spells IsOutcomeLine least line)
outcome_decided = spelled_by IsOutcomeLine Anything Anything (λ least. cond least (codes "least") (codes "never") ∷ []) searched_bool anything (λ least ws h. (tt, tt, h)) (λ least b r. refl)

departures_decided : (v : Version) (s : Schedule) (line : List ℕ) → Decided ((after : CertificateLines) × IsDeparturesLine v s line after)
departures_decided v s line = after_spelled (IsCountLine (codes "departures") 0 MOST_COUNT) (λ n. departure v n s []) line (count_decided (codes "departures") 0 MOST_COUNT line)

-- In a run that takes so many members of a chain at most.
module _ (most : ℕ) where
  chain_decided : (line : List ℕ) → Decided ((m : ℕ) × Spells (IsChainLine most) m line)
  chain_decided line = count_decided (codes "chain") 1 (min most MOST_MEMBERS) line

  decides : (a : CertificateLines) (line : List ℕ) → Decided ((after : CertificateLines) × NextOfCertificate most a line after)
  decides first line = after_spelled (IsCountLine (codes "certificate") 1 2) (λ n. outcome (version_of n)) line (count_decided (codes "certificate") 1 2 line)
  decides (outcome v) line = after_spelled IsOutcomeLine (λ least. cond least (scheduled v den) (never v)) line (outcome_decided line)
  decides (scheduled v lines) line = schedule_decided (scheduled v) (IsDeparturesLine v) (departures_decided v) lines line
  decides (departure v (suc left) s ds) line =
      after_spelled (IsNumberLine (codes "departure") (least_departure v) MOST_NUMERATOR) (λ d. departure v left s (ds ++ d ∷ [])) line
      (number_decided (codes "departure") (least_departure v) MOST_NUMERATOR line)
  decides (departure v zero s ds) line = after_spelled (IsChainLine most) (λ m. link v m (Least s ds [])) line (chain_decided line)
  decides (never v) line = after_spelled (IsChainLine most) (λ m. link v m (Never [])) line (chain_decided line)
  decides (link v (suc left) c) line = after_spelled (IsMemberLine v) (λ m. link v left (with_member c m)) line (member_decided v line)
  decides (link v zero c) line = after_spelled (IsWordLine (codes "end")) (λ u. whole c) line (word_decided (codes "end") line)
  decides (whole c) line = inr (λ h. h.1)

  of_end : (text : List ℕ) (b : CertificateLines) → IsWholeCertificate b → IsText (NextOfCertificate most) first b text → (c : Certificate) × IsCertificateText most text c
  of_end text first last is = absurd last
  of_end text (outcome v) last is = absurd last
  of_end text (scheduled v lines) last is = absurd last
  of_end text (departure v left s ds) last is = absurd last
  of_end text (never v) last is = absurd last
  of_end text (link v left c) last is = absurd last
  of_end text (whole c) last is = (c, is)

  pub have_certificate_or_refusal : HaveCertificateOrRefusal most
  have_certificate_or_refusal text = ⊎_elim
      (λ (h : (b : CertificateLines) × IsWholeCertificate b × IsText (NextOfCertificate most) first b text). inl (of_end text h.0 h.1 h.2))
      (λ (h : (n : ℕ) × IsCertificateFault most text n). inr (refusal.Syntax role.Certificate h.0, (h.0, refl, h.1)))
      (judged (NextOfCertificate most) IsWholeCertificate ends decides first text)
