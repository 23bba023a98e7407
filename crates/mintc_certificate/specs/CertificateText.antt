-- The text of a certificate, line by line, and its first line out of form.
use Rattle.std.specs.Prelude.{◌≡◌, ◌≢◌, ◌==◌, ℕ, zero, suc, ℤ, pos, neg_ℤ, Bool, if◌then◌else◌, List, [], ◌∷◌, ◌++◌}
use Rattle.std.specs.Prelude.{length, map, codes, min}
use Rattle.mintc_text.specs.declared.limits.TheConstants.{MOST_NUMERATOR, MOST_MEMBERS, MOST_COUNT}
use Rattle.mintc_text.specs.Lines.{IsText, IsFault}
use Rattle.mintc_text.specs.declared.refusals.Refusal.{Refusal}
use Rattle.mintc_text.specs.declared.refusals.Refusal.TheVariants as refusal
use Rattle.mintc_text.specs.declared.refusals.Role.TheVariants as role
use Rattle.mintc_timing.specs.declared.clocking.Schedule.{Schedule}
use Rattle.mintc_timing_text.specs.Fields.{IsCount, number, Spells, IsWordLine, IsNumberLine, IsCountLine}
use Rattle.mintc_timing_text.specs.Texts.{ScheduleLines, den, NextOfSchedule}
use Rattle.std.specs.List.{All}
use Rattle.mintc_certificate.specs.declared.members.Member.{Member}
use Rattle.mintc_certificate.specs.declared.members.Member.TheVariants as member
use Rattle.mintc_certificate.specs.declared.certificate.Certificate.{Certificate}
use Rattle.mintc_certificate.specs.declared.certificate.Certificate.TheVariants.{Least, Never}
use Rattle.mintc_certificate.specs.declared.version.Version.{Version}
use Rattle.mintc_certificate.specs.declared.version.Version.TheVariants.{First, Second}

-- Certificate texts have two versions. The first has no departures below 0 and no member `opened`.
abbrev pub version_of : ℕ → Version
version_of n = if n == 1 then First else Second

-- the least departure that a version can say, a numerator over the schedule's denominator
abbrev pub least_departure : Version → ℤ
least_departure First = pos 0
least_departure Second = neg_ℤ MOST_NUMERATOR

-- the words of a member
abbrev pub member_words : Member → List (List ℕ)
member_words (member.Start p) = codes "start" ∷ number p ∷ []
member_words (member.Cycle p) = codes "cycle" ∷ number p ∷ []
member_words (member.Order p) = codes "order" ∷ number p ∷ []
member_words (member.Span p) = codes "span" ∷ number p ∷ []
member_words (member.Width p) = codes "width" ∷ number p ∷ []
member_words (member.Apart i j) = codes "apart" ∷ number i ∷ number j ∷ []
member_words (member.Opening l) = codes "open" ∷ number l ∷ []
member_words (member.Opened l) = codes "opened" ∷ number l ∷ []
member_words (member.Reach j l path) = codes "reach" ∷ number j ∷ number l ∷ number (length path) ∷ map number path
member_words (member.Setup l) = codes "setup" ∷ number l ∷ []
member_words (member.Bound b) = codes "bound" ∷ number b ∷ []

-- Its numbers are counts, and a reach has some arcs.
abbrev pub IsCounted : Member → Type 0
IsCounted (member.Start p) = IsCount p
IsCounted (member.Cycle p) = IsCount p
IsCounted (member.Order p) = IsCount p
IsCounted (member.Span p) = IsCount p
IsCounted (member.Width p) = IsCount p
IsCounted (member.Apart i j) = IsCount i × IsCount j
IsCounted (member.Opening l) = IsCount l
IsCounted (member.Opened l) = IsCount l
IsCounted (member.Reach j l path) = IsCount j × IsCount l × IsCount (length path) × (path ≢ []) × All IsCount path
IsCounted (member.Setup l) = IsCount l
IsCounted (member.Bound b) = IsCount b

-- The version has the member.
abbrev pub IsMemberOf : Version → Member → Type 0
IsMemberOf First (member.Opened l) = ⊥
IsMemberOf version m = Unit {0}

-- the line of a member
pub record IsMemberLine (version : Version) (m : Member) (ws : List (List ℕ)) : Type 0 where
  pub counted : IsCounted m
  pub has : IsMemberOf version m
  pub spelled : ws ≡ member_words m

-- What is known of a certificate after some of its lines. A number says how many lines of a kind are left.
pub data CertificateLines : Type 0 where
  first : CertificateLines
  outcome : Version → CertificateLines
  scheduled : Version → ScheduleLines → CertificateLines
  departure : Version → ℕ → Schedule → List ℤ → CertificateLines
  never : Version → CertificateLines
  link : Version → ℕ → Certificate → CertificateLines
  whole : Certificate → CertificateLines

-- the certificate with one member more at the end of its chain
abbrev pub with_member : Certificate → Member → Certificate
with_member (Least schedule departures chain) m = Least schedule departures (chain ++ m ∷ [])
with_member (Never chain) m = Never (chain ++ m ∷ [])

-- the line that says whether a schedule follows
abbrev pub IsOutcomeLine : Bool → List (List ℕ) → Type 0
IsOutcomeLine least ws = ws ≡ (if least then codes "least" else codes "never") ∷ []

-- the line that says how many members follow, in a run that takes so many at most; never more than can be worked on
abbrev pub IsChainLine : ℕ → ℕ → List (List ℕ) → Type 0
IsChainLine most = IsCountLine (codes "chain") 1 (min most MOST_MEMBERS)

-- the line after those of a schedule, which says how many departures follow
abbrev pub IsDeparturesLine : Version → Schedule → List ℕ → CertificateLines → Type 0
IsDeparturesLine v s line after = (n : ℕ) × Spells (IsCountLine (codes "departures") 0 MOST_COUNT) n line
    × (after ≡ departure v n s [])

-- the form of the line that may come next
abbrev pub NextOfCertificate : ℕ → CertificateLines → List ℕ → CertificateLines → Type 0
NextOfCertificate most first line after = (n : ℕ) × Spells (IsCountLine (codes "certificate") 1 2) n line
    × (after ≡ outcome (version_of n))
NextOfCertificate most (outcome v) line after = (least : Bool) × Spells IsOutcomeLine least line
    × (after ≡ (if least then scheduled v den else never v))
NextOfCertificate most (scheduled v lines) line after = NextOfSchedule (scheduled v) (IsDeparturesLine v) lines line
    after
NextOfCertificate most (departure v (suc left) s ds) line after =
    (d : ℤ) × Spells (IsNumberLine (codes "departure") (least_departure v) MOST_NUMERATOR) d line
    × (after ≡ departure v left s (ds ++ d ∷ []))
NextOfCertificate most (departure v zero s ds) line after = (m : ℕ) × Spells (IsChainLine most) m line
    × (after ≡ link v m (Least s ds []))
NextOfCertificate most (never v) line after = (m : ℕ) × Spells (IsChainLine most) m line × (after ≡ link v m (Never []))
NextOfCertificate most (link v (suc left) c) line after = (m : Member) × Spells (IsMemberLine v) m line
    × (after ≡ link v left (with_member c m))
NextOfCertificate most (link v zero c) line after = (u : Unit {0}) × Spells (IsWordLine (codes "end")) u line
    × (after ≡ whole c)
NextOfCertificate most (whole c) line after = ⊥

-- the last line was read
abbrev pub IsWholeCertificate : CertificateLines → Type 0
IsWholeCertificate (whole c) = Unit {0}
IsWholeCertificate lines = ⊥

-- The text is one of the certificate's.
abbrev pub IsCertificateText : ℕ → List ℕ → Certificate → Type 0
IsCertificateText most text certificate = IsText (NextOfCertificate most) first (whole certificate) text

-- Line n, counted from 1, is the first that is out of form.
abbrev pub IsCertificateFault : ℕ → List ℕ → ℕ → Type 0
IsCertificateFault most text n = IsFault (NextOfCertificate most) IsWholeCertificate first text n

-- why a text that is no certificate's is refused: the first line that is out of form
abbrev pub IsCertificateRefusal : ℕ → List ℕ → Refusal → Type 0
IsCertificateRefusal most text r = (n : ℕ) × (r ≡ refusal.Syntax role.Certificate n) × IsCertificateFault most text n
