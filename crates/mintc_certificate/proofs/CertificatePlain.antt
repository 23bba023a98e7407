-- The lines of a certificate are plain, and a text has one certificate or one first line out of form.
use Rattle.std.proofs.Common.{ℕ, min, zero, suc, refl, ap, ◌∙◌, sym, arith, codes}
use Rattle.std.proofs.lemmas.Int.{ints}
use Rattle.mintc_text.specs.declared.limits.TheConstants.{MOST_NUMERATOR, MOST_MEMBERS, MOST_COUNT}
use Rattle.mintc_timing_text.specs.Fields.{plain_line, IsWordLine, IsCountLine}
use Rattle.mintc_timing_text.proofs.SharedLineLaws.{IsForm, word_form, count_form, number_form}
use Rattle.mintc_timing_text.proofs.SharedScheduleLaws.{schedule_step}
use Rattle.mintc_timing_text.proofs.SharedTextLaws.{IsPlainFormat, IsPlainStep, plain_step, no_step, ArePlainTexts, plain_texts}
use Rattle.mintc_certificate.specs.declared.version.Version.{Version}
use Rattle.mintc_certificate.specs.CertificateText.{NextOfCertificate, IsDeparturesLine, IsWholeCertificate, CertificateLines, first, outcome, scheduled, departure, never, link, whole, least_departure, IsOutcomeLine, IsChainLine, IsMemberLine}
use Rattle.mintc_certificate.proofs.CertificateReading.{IsDepartureLine, least_is}
use Rattle.mintc_certificate.proofs.MemberLaws.{plain_words, member_one}

-- ---- each line has one value, and no line feed

-- the forms of a certificate's lines
pub outcome_form : IsForm IsOutcomeLine
outcome_form = record { plain = λ b ws h. grind arith; one = λ b c ws h g. grind arith; words = λ b ws xs h g. h ∙ sym g }

pub departure_form : (v : Version) → IsForm (IsDepartureLine v)
departure_form v = number_form (codes "departure") (least_departure v) MOST_NUMERATOR refl (omega (arith, ints, least_is v)) (omega (arith, ints))

pub departures_form : IsForm (IsCountLine (codes "departures") 0 MOST_COUNT)
departures_form = count_form (codes "departures") 0 MOST_COUNT refl (omega arith)

pub member_form : (v : Version) → IsForm (IsMemberLine v)
member_form v = record { plain = λ m ws h. ap plain_line h.spelled ∙ plain_words m h.counted; one = member_one v; words = λ m ws xs h g. h.spelled ∙ sym g.spelled }

pub end_form : IsForm (IsWordLine (codes "end"))
end_form = word_form (codes "end") refl

-- the first line was read
abbrev pub Begun : CertificateLines → Type 0
Begun first = ⊥
Begun lines = Unit {0}

abbrev pub Any : CertificateLines → Type 0
Any a = Unit {0}

-- In a run that takes so many members of a chain at most.
module _ (most : ℕ) where
  pub chain_form : IsForm (IsChainLine most)
  chain_form = count_form (codes "chain") 1 (min most MOST_MEMBERS) refl (omega arith)

  pub certificate_step : (a : CertificateLines) → IsPlainStep ((NextOfCertificate most) a) Begun
  certificate_step first = plain_step (count_form (codes "certificate") 1 2 refl (omega arith)) (λ n ws h. tt)
  certificate_step (outcome v) = plain_step outcome_form (λ x ws h. grind arith)
  certificate_step (scheduled v lines) = schedule_step (scheduled v) (IsDeparturesLine v) Begun (λ l. tt) (λ s. plain_step departures_form (λ n ws h. tt)) lines
  certificate_step (departure v (suc left) s ds) = plain_step (departure_form v) (λ d ws h. tt)
  certificate_step (departure v zero s ds) = plain_step chain_form (λ m ws h. tt)
  certificate_step (never v) = plain_step chain_form (λ m ws h. tt)
  certificate_step (link v (suc left) c) = plain_step (member_form v) (λ m ws h. tt)
  certificate_step (link v zero c) = plain_step end_form (λ u ws h. tt)
  certificate_step (whole c) = no_step

  pub certificate_plain : IsPlainFormat (NextOfCertificate most) Any
  certificate_plain = record { keeps = λ a b line p h. tt; one = λ a b c line p h g. (certificate_step a).one b c line h g; free = λ a b line p h. (certificate_step a).free b line h }

  pub certificate_texts : ArePlainTexts (NextOfCertificate most) IsWholeCertificate first whole
  certificate_texts = plain_texts whole certificate_plain tt (λ c d e. cc e) (λ c. tt)
